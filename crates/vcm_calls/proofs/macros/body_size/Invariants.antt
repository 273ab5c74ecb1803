use Rattle.std.proofs.Common.{◌≡◌, ◌≤◌, ◌+◌, ◌-◌, length, drop}
use Rattle.vcm_calls.specs.Carried.{body_size}
use Rattle.vcm_calls.proofs.macros.body_size.Given as goal

abbrev pub invariant-loop-size : goal.invariant-loop-size
invariant-loop-size l = (l.size ≤ length l.statements) × (l.size + body_size (drop l.size l.statements) ≡ body_size l.statements)

abbrev pub decreases-loop-size : goal.decreases-loop-size
decreases-loop-size l = length l.statements - l.size
