use Rattle.std.proofs.Common.{◌≡◌, ◌++◌, drop}
use Rattle.std.specs.List.{flat_map}
use Rattle.vcm_datums.specs.Datums.{made_by, made_in}
use Rattle.vcm_datums.proofs.origins.made_in.Given as goal

abbrev pub invariant-loop-logical : goal.invariant-loop-logical
invariant-loop-logical l = record {
  left : l.out.items ++ flat_map (made_by l.datums) (drop l.logical-index l.lines) ≡ made_in l.datums l.lines;
}
