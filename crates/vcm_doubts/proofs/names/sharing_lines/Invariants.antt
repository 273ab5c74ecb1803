use Rattle.std.proofs.Common.{◌≡◌, ◌++◌, drop}
use Rattle.vcm_doubts.specs.Doubts.{sharing_lines}
use Rattle.vcm_doubts.proofs.names.sharing_lines.Given as goal

abbrev pub invariant-loop-logical : goal.invariant-loop-logical
invariant-loop-logical l = record {
  left : sharing_lines l.lines ≡ l.numbers ++ sharing_lines (drop l.logical-index l.lines);
}
