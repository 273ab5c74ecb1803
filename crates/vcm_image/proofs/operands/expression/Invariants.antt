use Rattle.std.proofs.Common.{◌≡◌, ◌++◌, drop}
use Rattle.std.specs.List.{flat_map, AllByRecursion}
use Rattle.vcm_fields.specs.Widths.{FitsItem}
use Rattle.vcm_fields.specs.Spelling.{item, expression}
use Rattle.vcm_image.proofs.operands.expression.Given as goal

abbrev pub invariant-loop-x : goal.invariant-loop-x
invariant-loop-x l = record {
  bytes : l.out.items ++ flat_map item (drop l.x-index l.items) ≡ l.fn.out.items ++ expression l.items;
  widths : AllByRecursion FitsItem (drop l.x-index l.items) → AllByRecursion FitsItem l.items;
}
