use Rattle.std.proofs.Common.{◌≡◌, ◌++◌, drop}
use Rattle.std.specs.List.{flat_map, AllByRecursion}
use Rattle.vcm_fields.specs.Widths.{FitsBranch}
use Rattle.vcm_fields.specs.Spelling.{branch, branches}
use Rattle.vcm_image.proofs.operands.branches.Given as goal

abbrev pub invariant-loop-value : goal.invariant-loop-value
invariant-loop-value l = record {
  bytes : l.out.items ++ flat_map branch (drop l.value-index l.branches) ≡ l.fn.out.items ++ branches l.branches;
  widths : AllByRecursion FitsBranch (drop l.value-index l.branches) → AllByRecursion FitsBranch l.branches;
}
