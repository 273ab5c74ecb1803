use Rattle.std.proofs.Common.{take}
use Rattle.std.specs.Prelude.{flat_map}
use Rattle.vcm_sheet.specs.Sayings.{Adds}
use Rattle.vcm_sheet.specs.Tables.{point_row}
use Rattle.vcm_sheet.proofs.rows.put_point_rows.Given as goal

abbrev pub invariant-loop-point : goal.invariant-loop-point
invariant-loop-point l = record {
  rows : Adds (flat_map (point_row l.features l.readings) (take l.point-index l.points)) l.fn.out.items l.out.items;
}
