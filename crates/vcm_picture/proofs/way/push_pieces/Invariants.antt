use Rattle.std.proofs.Common.{◌≡◌, ◌++◌, drop}
use Rattle.vcm_picture.specs.Way.{pieces}
use Rattle.vcm_picture.proofs.way.push_pieces.Given as goal

abbrev pub invariant-loop-placed : goal.invariant-loop-placed
invariant-loop-placed l = record {
  shapes : l.shapes.items ++ pieces l.fn.scope l.fn.is_few (drop l.placed-index l.marks) ≡ l.fn.shapes.items ++ pieces l.fn.scope l.fn.is_few l.marks;
}
