use Rattle.vcm_mesh.proofs.Rounding.{halved_to_nothing}
use Rattle.vcm_mesh.proofs.length.halved.Goals as goal

pub returns-then-times-gt60-clause-is : goal.returns-then-times-gt60-clause-is
returns-then-times-gt60-clause-is c = halved_to_nothing c.args.n c.args.times c.requires c.if-times-gt60.true
