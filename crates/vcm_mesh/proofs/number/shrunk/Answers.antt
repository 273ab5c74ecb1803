use Rattle.std.proofs.Common.{◌≤◌, ◌^◌, arith}
use Rattle.std.proofs.Math.Nat.{one-le-pow}
use Rattle.vcm_mesh.proofs.Rounding.{shrunk_to_nothing}
use Rattle.vcm_mesh.proofs.number.shrunk.Goals as goal

pub returns-then-down-gt38-clause-is : goal.returns-then-down-gt38-clause-is
returns-then-down-gt38-clause-is c = shrunk_to_nothing c.args.number c.args.down c.requires c.if-down-gt38.true

pub nonzero_div-size-2 : goal.nonzero_div-size-2
nonzero_div-size-2 c = let some : 1 ≤ 10 ^ c.args.down = one-le-pow c.args.down 10 (omega arith) in rw c.power_of_ten-divisor.ensures (omega arith)
