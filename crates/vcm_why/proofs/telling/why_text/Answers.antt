use Rattle.std.proofs.Common.{Some}
use Rattle.vcm_why.proofs.Faults.{not_told}
use Rattle.vcm_why.proofs.telling.why_text.Goals as goal

pub returns-in-Ok-source_of-clause-fault : goal.returns-in-Ok-source_of-clause-fault
returns-in-Ok-source_of-clause-fault g c =
    not_told c.args.names.now (Some c.args.text.now) (Some c.in-Ok-source_of.source) c.args.blocks.now c.args.loaded.now c.args.steps c.in-Ok.watched _ _ c.in-Ok.ensures.watched
    c.in-Ok-source_of.ensures c.tell.result c.tell.ensures.fault
