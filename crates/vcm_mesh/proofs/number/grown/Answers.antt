use Rattle.std.proofs.Common.{arith}
use Rattle.vcm_mesh.proofs.Rounding.{grown_beyond, power_beyond}
use Rattle.vcm_mesh.proofs.number.grown.Goals as goal
use Rattle.vcm_mesh.proofs.number.grown.Goals.{then-number-gt2000000000-via-then-number-gt2000000000, then-number-gt2000000000-via-else-number-gt2000000000+then-up-gt9}

pub returns-then-number-gt2000000000-clause-is : goal.returns-then-number-gt2000000000-clause-is
returns-then-number-gt2000000000-clause-is c =
    elim c.then-number-gt2000000000.branch [
      | then-number-gt2000000000-via-then-number-gt2000000000 w ↦ grown_beyond c.args.number c.args.up (omega arith)
      | then-number-gt2000000000-via-else-number-gt2000000000+then-up-gt9 w ↦ power_beyond c.args.number c.args.up (omega arith) (omega arith)
    ]
