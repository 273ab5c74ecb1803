use Rattle.std.proofs.Common.{◌≡◌, ◌++◌, drop}
use Rattle.std.specs.List.{flat_map, AllByRecursion}
use Rattle.vcm_code.specs.Ranges.{IsRanged}
use Rattle.vcm_fields.specs.Fields.{in_plain}
use Rattle.vcm_fields.specs.Widths.{HasWidth}
use Rattle.vcm_fields.specs.Spelling.{place}
use Rattle.vcm_image.specs.inner.Meeting.{FieldMeets}
use Rattle.vcm_image.proofs.operands.fields.Given as goal

abbrev pub invariant-loop-it : goal.invariant-loop-it
invariant-loop-it l = record {
  bytes : l.out.items ++ flat_map (in_plain place) (drop l.it-index l.fields) ≡ l.fn.out.items ++ flat_map (in_plain place) l.fields;
  range : AllByRecursion (FieldMeets IsRanged) (drop l.it-index l.fields);
  widths : AllByRecursion (FieldMeets HasWidth) (drop l.it-index l.fields) → AllByRecursion (FieldMeets HasWidth) l.fields;
}
