use Rattle.std.proofs.Common.{◌∙◌}
use Rattle.vcm_num.specs.declared.axis.Axis.TheVariants.{PlusX, PlusY, PlusZ}
use Rattle.vcm_frame.proofs.Taken.{taken_is}
use Rattle.vcm_frame.proofs.Quarters.{columns_are}
use Rattle.vcm_frame.proofs.turn.Turn.columns.Goals as goal

pub returns : goal.returns
returns c =
    let t = c.self.inside in
    rw (
      ← c.self.view_is,
      c.taken.ensures ∙ taken_is t.first t.second t.third PlusX c.self.invariant,
      c.taken-2.ensures ∙ taken_is t.first t.second t.third PlusY c.self.invariant,
      c.taken-3.ensures ∙ taken_is t.first t.second t.third PlusZ c.self.invariant,
    )
    (columns_are t.first t.second t.third c.self.invariant)
