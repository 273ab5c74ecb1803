use Rattle.std.proofs.Common.{◌≡◌, drop, []}
use Rattle.vcm_sheet.specs.Points.{with_points}
use Rattle.vcm_sheet.proofs.points.all_points.Given as goal

abbrev pub invariant-loop-placed : goal.invariant-loop-placed
invariant-loop-placed l = record {
  points : with_points l.points.items (drop l.placed-index l.marks) ≡ with_points [] l.marks;
}
