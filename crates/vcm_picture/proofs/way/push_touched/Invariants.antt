use Rattle.std.proofs.Common.{◌≡◌, ◌++◌, drop}
use Rattle.vcm_picture.specs.Way.{touched_points}
use Rattle.vcm_picture.proofs.way.push_touched.Given as goal

abbrev pub invariant-loop-placed : goal.invariant-loop-placed
invariant-loop-placed l = record {
  shapes : l.shapes.items ++ touched_points l.fn.scope (drop l.placed-index l.marks) ≡ l.fn.shapes.items ++ touched_points l.fn.scope l.marks;
}
