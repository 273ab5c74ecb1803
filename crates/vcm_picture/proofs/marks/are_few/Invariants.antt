use Rattle.std.proofs.Common.{◌≡◌, ◌≤◌, ◌+◌, drop}
use Rattle.vcm_marks.specs.Pieces.{pieces}
use Rattle.vcm_picture.proofs.marks.are_few.Given as goal

abbrev pub invariant-loop-placed : goal.invariant-loop-placed
invariant-loop-placed l = record {
  count : l.count + pieces (drop l.placed-index l.marks) ≡ pieces l.marks;
  few : l.count ≤ l.placed-index;
}
