use Rattle.std.proofs.Common.{length, ◌-◌, ◌≤◌, take}
use Rattle.vcm_num.specs.Literals.{AllDigits}
use Rattle.vcm_num.proofs.read.split_digits.Given as goal

abbrev pub invariant-loop-n : goal.invariant-loop-n
invariant-loop-n l = (l.n ≤ length l.bytes) × AllDigits (take l.n l.bytes)

abbrev pub decreases-loop-n : goal.decreases-loop-n
decreases-loop-n l = length l.bytes - l.n
