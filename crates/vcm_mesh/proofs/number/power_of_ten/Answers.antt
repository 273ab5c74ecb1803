use Rattle.std.proofs.Common.{arith}
use Rattle.vcm_mesh.proofs.Rounding.{power_fits}
use Rattle.vcm_mesh.proofs.number.power_of_ten.Goals as goal

pub pow-requires : goal.pow-requires
pow-requires c = omega (arith, power_fits c.args.exponent c.requires)
