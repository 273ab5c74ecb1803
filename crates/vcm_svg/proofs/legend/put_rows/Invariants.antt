use Rattle.std.proofs.Common.{◌≡◌, ◌++◌, drop}
use Rattle.std.specs.Prelude.{map}
use Rattle.vcm_svg.specs.Legend.{rows_text}
use Rattle.vcm_svg.proofs.legend.put_rows.Given as goal

abbrev pub invariant-loop-row : goal.invariant-loop-row
invariant-loop-row l = record {
  bytes : l.out.items ++ rows_text l.fn.at l.fn.unit (map (λ row. (row.0, row.1, row.2, row.3.now)) (drop l.row-index l.rows))
      ≡ l.fn.out.items ++ rows_text l.fn.at l.fn.unit (map (λ row. (row.0, row.1, row.2, row.3.now)) l.rows);
}
