use Rattle.std.proofs.Common.{drop}
use Rattle.std.specs.List.{AllByRecursion}
use Rattle.vcm_fields.specs.Widths.{FitsItem}
use Rattle.vcm_image.proofs.fitting.are_items.Given as goal

abbrev pub invariant-loop-it : goal.invariant-loop-it
invariant-loop-it l = record {
  fit : AllByRecursion FitsItem (drop l.it-index l.items) → AllByRecursion FitsItem l.items;
}
