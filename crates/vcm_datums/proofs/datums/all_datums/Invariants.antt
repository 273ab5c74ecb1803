use Rattle.std.proofs.Common.{◌≡◌, ◌++◌, drop}
use Rattle.std.specs.List.{flat_map}
use Rattle.vcm_datums.specs.Datums.{datums_by}
use Rattle.vcm_datums.proofs.datums.all_datums.Given as goal

abbrev pub invariant-loop-logical : goal.invariant-loop-logical
invariant-loop-logical l = record {
  left : l.out.items ++ flat_map datums_by (drop l.logical-index l.lines) ≡ flat_map datums_by l.lines;
}
