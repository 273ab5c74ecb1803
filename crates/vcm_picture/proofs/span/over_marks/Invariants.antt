use Rattle.std.proofs.Common.{◌≡◌, drop}
use Rattle.vcm_picture.specs.Span.{over_marks}
use Rattle.vcm_picture.proofs.span.over_marks.Given as goal

abbrev pub invariant-loop-placed : goal.invariant-loop-placed
invariant-loop-placed l = record {
  span : over_marks l.axis l.span (drop l.placed-index l.marks) ≡ over_marks l.axis l.fn.span l.marks;
}
