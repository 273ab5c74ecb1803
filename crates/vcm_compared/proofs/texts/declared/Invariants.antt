use Rattle.std.proofs.Common.{◌≡◌, ◌++◌, drop}
use Rattle.vcm_compared.specs.Texts.{declared}
use Rattle.vcm_compared.proofs.texts.declared.Given as goal

abbrev pub invariant-loop-logical : goal.invariant-loop-logical
invariant-loop-logical l = record {
  left : declared l.lines ≡ l.out ++ declared (drop l.logical-index l.lines);
}
