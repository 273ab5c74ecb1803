use Rattle.std.proofs.Common.{◌≡◌, drop}
use Rattle.vcm_compared.specs.Compared.{has_texts}
use Rattle.vcm_compared.proofs.comparing.has_texts.Given as goal

abbrev pub invariant-loop-logical : goal.invariant-loop-logical
invariant-loop-logical l = record {
  left : has_texts l.lines ≡ has_texts (drop l.logical-index l.lines);
}
