use Rattle.std.proofs.Common.{drop}
use Rattle.std.specs.List.{AllByRecursion}
use Rattle.vcm_fields.specs.Widths.{FitsBranch}
use Rattle.vcm_image.proofs.fitting.are_branches.Given as goal

abbrev pub invariant-loop-it : goal.invariant-loop-it
invariant-loop-it l = record {
  fit : AllByRecursion FitsBranch (drop l.it-index l.branches) → AllByRecursion FitsBranch l.branches;
}
