use Rattle.std.proofs.Common.{ap, ◌∙◌, subst, ◌<◌, length}
use Rattle.vcm_set_debug.proofs.course.Course.next.Goals as goal

pub returns-clause-is : goal.returns-clause-is
returns-clause-is g c = rw (← c.self.view_is) (c.next.ensures.is ∙ ap (λ m. m.state.next) c.self.invariant.0.machine_is)

pub returns-clause-within : goal.returns-clause-within
returns-clause-within g c = rw (← c.self.view_is) (subst (λ m. c.next.result < length m.code.statements) c.self.invariant.0.machine_is c.next.ensures.within)
