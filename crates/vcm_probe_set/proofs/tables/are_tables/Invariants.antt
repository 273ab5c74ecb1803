use Rattle.std.proofs.Common.{◌≡◌, drop}
use Rattle.vcm_part.specs.PartFile.{are_tables}
use Rattle.toml.specs.View.{items_view}
use Rattle.vcm_probe_set.proofs.tables.are_tables.Given as goal

abbrev pub invariant-loop-row : goal.invariant-loop-row
invariant-loop-row l = are_tables (items_view (drop l.row-index l.rows)) ≡ are_tables (items_view l.rows)
