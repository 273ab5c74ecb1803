use Rattle.std.proofs.Common.{None}
use Rattle.vcm_why.proofs.Faults.{not_told}
use Rattle.vcm_why.proofs.telling.why_image.Goals as goal

pub returns-clause-fault : goal.returns-clause-fault
returns-clause-fault g c = not_told c.args.names.now None None c.args.blocks.now c.args.loaded.now c.args.steps c.in-Ok.watched _ _ c.in-Ok.ensures.watched tt c.tell.result c.tell.ensures.fault
