use Rattle.std.proofs.Common.{drop}
use Rattle.std.specs.List.{AllByRecursion}
use Rattle.vcm_code.specs.Ranges.{AllInRange}
use Rattle.vcm_fields.specs.Widths.{LineHasWidths}
use Rattle.vcm_image.proofs.fitting.all_in_range.Given as goal

abbrev pub invariant-loop-it : goal.invariant-loop-it
invariant-loop-it l = record {
  on : AllInRange (drop l.it-index l.statements) → AllInRange l.statements;
  back : AllInRange l.statements → AllInRange (drop l.it-index l.statements);
  widths : AllByRecursion LineHasWidths (drop l.it-index l.statements) → AllByRecursion LineHasWidths l.statements;
}
