use Rattle.std.proofs.Common.{◌≡◌, ◌+◌, ◌-◌, ◌≤◌, length, drop}
use Rattle.vcm_sentences.specs.Parted.{outside}
use Rattle.vcm_sentences.specs.inner.Parting.{place_of, field_len}
use Rattle.vcm_sentences.proofs.parts.field_len.Given as goal

abbrev pub invariant-bytes : goal.invariant-bytes
invariant-bytes l = (l.at ≤ length l.text) × (l.at + field_len (place_of l.place) (drop l.at l.text) ≡ field_len outside l.text)

abbrev pub decreases-bytes : goal.decreases-bytes
decreases-bytes l = length l.text - l.at
