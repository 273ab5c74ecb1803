use Rattle.std.proofs.Common.{◌≡◌, [], drop}
use Rattle.vcm_compared.specs.Texts.{with_lines}
use Rattle.vcm_compared.proofs.texts.add_lines.Given as goal

abbrev pub invariant-loop-logical : goal.invariant-loop-logical
invariant-loop-logical l = record {
  left : with_lines [] l.lines ≡ with_lines l.out (drop l.logical-index l.lines);
}
