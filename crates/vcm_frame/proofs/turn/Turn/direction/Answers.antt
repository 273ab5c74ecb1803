use Rattle.std.proofs.Common.{◌∙◌}
use Rattle.vcm_frame.proofs.Taken.{taken_is}
use Rattle.vcm_frame.proofs.turn.Turn.direction.Goals as goal

pub returns : goal.returns
returns c = rw (← c.self.view_is) (c.taken.ensures ∙ taken_is c.self.inside.first c.self.inside.second c.self.inside.third c.args.toward c.self.invariant)
