use Rattle.std.proofs.Common.{◌≡◌, ◌<◌, ◌^◌, ◌++◌, drop}
use Rattle.std.specs.List.{flat_map, AllByRecursion}
use Rattle.vcm_fields.specs.Spelling.{entry}
use Rattle.vcm_image.proofs.writing.variables.Given as goal

abbrev pub invariant-loop-it : goal.invariant-loop-it
invariant-loop-it l = record {
  bytes : l.out.items ++ flat_map entry (drop l.it-index l.variables) ≡ l.fn.out.items ++ flat_map entry l.variables;
  widths : AllByRecursion (λ v. v.expansion < 2 ^ 32) (drop l.it-index l.variables) → AllByRecursion (λ v. v.expansion < 2 ^ 32) l.variables;
}
