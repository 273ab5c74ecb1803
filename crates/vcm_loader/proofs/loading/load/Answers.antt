use Rattle.vcm_loader.proofs.Refusals.{is_only}
use Rattle.vcm_loader.proofs.loading.load.Goals as goal

pub returns-clause-only : goal.returns-clause-only
returns-clause-only c = is_only c.args.bytes.now c.judged.result c.judged.ensures.fault
