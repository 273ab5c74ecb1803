use Rattle.std.proofs.Common.{◌≡◌, drop}
use Rattle.vcm_compared.specs.Puts.{scan_from, begun}
use Rattle.vcm_compared.proofs.puts.scan_behind.Given as goal

abbrev pub invariant-loop-logical : goal.invariant-loop-logical
invariant-loop-logical l = record {
  left : scan_from l.texts l.most begun l.below ≡ scan_from l.texts l.most l.scan (drop l.logical-index l.below);
}
