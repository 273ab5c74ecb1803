use Rattle.vcm_macro.proofs.Insides.{blocks_taken}
use Rattle.vcm_macro.proofs.defining.Opened.taken.Goals as goal

pub invariant_of-result : goal.invariant_of-result
invariant_of-result c = blocks_taken c.self.inside.blocks c.take.new.self c.self.inside.body.items c.push.new.self.items c.args.statement c.self.invariant
    c.in_ok-take.ensures c.in_ok-push.ensures.items
