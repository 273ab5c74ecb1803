use Rattle.std.proofs.Common.{◌≡◌, ◌++◌, map, drop}
use Rattle.toml.specs.View.{items_view}
use Rattle.vcm_keys.specs.Unused.{row_names}
use Rattle.vcm_keys.proofs.keys.names_of_rows.Given as goal

abbrev pub invariant-loop-row : goal.invariant-loop-row
invariant-loop-row l = map (λ v. v.items) l.names.items ++ row_names (items_view (drop l.row-index l.rows)) ≡ row_names (items_view l.rows)
