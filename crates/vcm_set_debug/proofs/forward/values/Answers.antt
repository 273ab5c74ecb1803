use Rattle.vcm_debug.proofs.Copies.{as_many}
use Rattle.vcm_set_debug.proofs.forward.values.Goals as goal

pub returns-clause-count : goal.returns-clause-count
returns-clause-count g c =
    as_many c.world.result.now.tables c.args.course.now.code.tables c.world.result.now.state.variables c.variables.result.now c.variables.ensures.fit c.world.ensures.tables
    c.variables.ensures.values
