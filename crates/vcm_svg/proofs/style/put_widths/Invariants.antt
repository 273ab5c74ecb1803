use Rattle.std.proofs.Common.{◌≡◌, ◌++◌, drop}
use Rattle.std.specs.Prelude.{map}
use Rattle.vcm_svg.specs.Style.{widths}
use Rattle.vcm_svg.proofs.style.put_widths.Given as goal

abbrev pub invariant-loop-row : goal.invariant-loop-row
invariant-loop-row l = record {
  bytes : l.out.items ++ widths l.fn.unit (map (λ row. (row.0.now, row.1)) (drop l.row-index l.table)) ≡ l.fn.out.items ++ widths l.fn.unit (map (λ row. (row.0.now, row.1)) l.table);
}
