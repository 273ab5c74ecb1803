use Rattle.std.proofs.Common.{rules}
use Rattle.vcm_carried.proofs.fraction.Fraction.permille.Goals as goal

pub returns : goal.returns
returns c = search rules
