use Rattle.std.proofs.Common.{◌≡◌, [], drop}
use Rattle.vcm_compared.specs.Texts.{with_all_parameters}
use Rattle.vcm_compared.proofs.texts.all_parameters.Given as goal

abbrev pub invariant-loop-logical : goal.invariant-loop-logical
invariant-loop-logical l = record {
  left : with_all_parameters [] l.lines ≡ with_all_parameters l.out (drop l.logical-index l.lines);
}
