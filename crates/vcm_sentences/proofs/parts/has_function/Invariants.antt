use Rattle.std.proofs.Common.{◌≡◌, ◌-◌, ◌≤◌, length, drop}
use Rattle.vcm_sentences.specs.Parted.{has_function_behind, has_function}
use Rattle.vcm_sentences.proofs.parts.has_function.Given as goal

abbrev pub invariant-bytes : goal.invariant-bytes
invariant-bytes l = (l.at ≤ length l.bytes) × (has_function_behind l.last (drop l.at l.bytes) ≡ has_function l.bytes)

abbrev pub decreases-bytes : goal.decreases-bytes
decreases-bytes l = length l.bytes - l.at
