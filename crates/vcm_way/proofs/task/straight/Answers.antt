use Rattle.vcm_way.proofs.Sent.{goto_there, goto_nowhere}
use Rattle.vcm_way.proofs.task.straight.Goals as goal

pub returns-in-Ok : goal.returns-in-Ok
returns-in-Ok c home = goto_there c.args.world.now.state c.args.x.now c.args.y.now c.args.z.now home _ c.in-Ok.ensures

pub returns-in-Err : goal.returns-in-Err
returns-in-Err c home = goto_nowhere c.args.world.now.state c.args.x.now c.args.y.now c.args.z.now home _ c.in-Err.ensures
