use Rattle.std.proofs.Common.{◌≡◌, ◌++◌, drop}
use Rattle.toml.specs.View.{items_view}
use Rattle.vcm_keys.specs.Fixtures.{row_fixtures}
use Rattle.vcm_keys.proofs.keys.fixtures_of_rows.Given as goal

abbrev pub invariant-loop-row : goal.invariant-loop-row
invariant-loop-row l = l.fixtures.items ++ row_fixtures (items_view (drop l.row-index l.rows)) ≡ row_fixtures (items_view l.rows)
