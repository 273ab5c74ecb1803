use Rattle.std.proofs.Common.{ap, ◌∙◌}
use Rattle.vcm_set_debug.proofs.course.Course.world.Goals as goal

pub returns-clause-state : goal.returns-clause-state
returns-clause-state g c = rw (← c.self.view_is) (c.world.ensures.state ∙ ap (λ m. m.state.world) c.self.invariant.0.machine_is)

pub returns-clause-tables : goal.returns-clause-tables
returns-clause-tables g c = rw (← c.self.view_is) (c.world.ensures.tables ∙ ap (λ m. m.code.tables) c.self.invariant.0.machine_is)
