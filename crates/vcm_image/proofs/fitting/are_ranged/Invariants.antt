use Rattle.std.proofs.Common.{drop}
use Rattle.std.specs.List.{AllByRecursion}
use Rattle.vcm_code.specs.Ranges.{IsRanged}
use Rattle.vcm_fields.specs.Widths.{HasWidth}
use Rattle.vcm_image.specs.inner.Meeting.{FieldMeets}
use Rattle.vcm_image.proofs.fitting.are_ranged.Given as goal

abbrev pub invariant-loop-it : goal.invariant-loop-it
invariant-loop-it l = record {
  on : AllByRecursion (FieldMeets IsRanged) (drop l.it-index l.fields) → AllByRecursion (FieldMeets IsRanged) l.fields;
  back : AllByRecursion (FieldMeets IsRanged) l.fields → AllByRecursion (FieldMeets IsRanged) (drop l.it-index l.fields);
  widths : AllByRecursion (FieldMeets HasWidth) (drop l.it-index l.fields) → AllByRecursion (FieldMeets HasWidth) l.fields;
}
