use Rattle.std.proofs.Common.{◌≡◌, drop, length, []}
use Rattle.toml.specs.View.{items_view}
use Rattle.vcm_probe_set.specs.ProbeFile.{rows_behind, probe_of}
use Rattle.vcm_probe_set.proofs.reading.probes_behind.Given as goal

abbrev pub invariant-loop-row : goal.invariant-loop-row
invariant-loop-row l = record {
  many : length l.probes.items ≡ l.row-index;
  read : rows_behind probe_of l.probes.items (items_view (drop l.row-index l.rows)) ≡ rows_behind probe_of [] (items_view l.rows);
}
