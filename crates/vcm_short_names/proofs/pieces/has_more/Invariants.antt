use Rattle.std.proofs.Common.{◌≡◌, ◌≤◌, drop}
use Rattle.vcm_short_names.specs.inner.Runs.{has_more, has_more_from}
use Rattle.vcm_short_names.proofs.pieces.has_more.Given as goal

abbrev pub invariant-loop-byte : goal.invariant-loop-byte
invariant-loop-byte l = record {
  left : has_more l.text ≡ has_more_from l.stand l.count (drop l.byte-index l.text);
  few : l.count ≤ 16;
}
