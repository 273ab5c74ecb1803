use Rattle.vcm_way.proofs.Sent.{measure_there, measure_lost}
use Rattle.vcm_way.proofs.task.measure.Goals as goal

pub returns-in-Ok-machine_point : goal.returns-in-Ok-machine_point
returns-in-Ok-machine_point c home =
    rw (c.direction-in-Ok-machine_point.ensures, c.frame.ensures)
    (measure_there c.args.world.now.state c.args.x.now c.args.y.now c.args.z.now c.args.feature c.args.toward home _ _ c.in-Ok.ensures c.in-Ok-machine_point.ensures)

pub returns-in-Err-machine_point : goal.returns-in-Err-machine_point
returns-in-Err-machine_point c home =
    measure_lost c.args.world.now.state c.args.x.now c.args.y.now c.args.z.now c.args.feature c.args.toward home _ _ c.in-Ok.ensures c.in-Err-machine_point.ensures
