use Rattle.std.proofs.Common.{◌≡◌, drop}
use Rattle.vcm_sheet.specs.Numbers.{with_numbers}
use Rattle.vcm_sheet.proofs.Listed.{numbering}
use Rattle.vcm_sheet.proofs.numbers.number_points.Given as goal

abbrev pub invariant-loop-point : goal.invariant-loop-point
invariant-loop-point l = record {
  numbers : with_numbers l.scope (drop l.point-index l.points) (numbering l.taken.items l.numbers.items)
      ≡ with_numbers l.scope l.points (numbering l.fn.taken.items l.fn.numbers.items);
}
