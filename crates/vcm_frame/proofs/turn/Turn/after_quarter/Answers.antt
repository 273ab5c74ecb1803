use Rattle.vcm_frame.proofs.Quarters.{after_quarter_turn}
use Rattle.vcm_frame.proofs.turn.Turn.after_quarter.Goals as goal

pub invariant_of-result : goal.invariant_of-result
invariant_of-result c =
    let t = c.self.inside in
    after_quarter_turn t.first t.second t.third _ _ _ c.args.axis c.requires c.self.invariant c.quartered.ensures c.quartered-2.ensures c.quartered-3.ensures
