use Rattle.std.proofs.Common.{◌≡◌, ◌++◌, ◌+◌, drop}
use Rattle.toml.specs.View.{items_view}
use Rattle.vcm_keys.specs.Unused.{unused_in_rows}
use Rattle.vcm_keys.proofs.unused.put_rows.Given as goal

abbrev pub invariant-loop-row : goal.invariant-loop-row
invariant-loop-row l = record {
  block : l.block ≡ l.row-index + 1;
  put : l.unused.items ++ unused_in_rows l.block (items_view (drop l.row-index l.rows)) ≡ l.initial.unused.items ++ unused_in_rows 1 (items_view l.rows);
}
