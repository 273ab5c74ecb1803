use Rattle.std.proofs.Common.{◌≡◌, ◌++◌, drop}
use Rattle.std.specs.List.{flat_map, AllByRecursion}
use Rattle.vcm_code.specs.Ranges.{AllInRange}
use Rattle.vcm_fields.specs.Widths.{LineHasWidths}
use Rattle.vcm_fields.specs.Spelling.{line}
use Rattle.vcm_image.proofs.writing.statements.Given as goal

abbrev pub invariant-loop-it : goal.invariant-loop-it
invariant-loop-it l = record {
  bytes : l.out.items ++ flat_map line (drop l.it-index l.statements) ≡ l.fn.out.items ++ flat_map line l.statements;
  widths : AllByRecursion LineHasWidths (drop l.it-index l.statements) → AllByRecursion LineHasWidths l.statements;
  left : AllInRange (drop l.it-index l.statements);
}
