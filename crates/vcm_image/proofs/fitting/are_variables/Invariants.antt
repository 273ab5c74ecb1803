use Rattle.std.proofs.Common.{◌<◌, ◌^◌, drop}
use Rattle.std.specs.List.{AllByRecursion}
use Rattle.vcm_items.specs.Names.{AreNamed}
use Rattle.vcm_image.proofs.fitting.are_variables.Given as goal

abbrev pub invariant-loop-it : goal.invariant-loop-it
invariant-loop-it l = record {
  on : AreNamed (drop l.it-index l.variables) → AreNamed l.variables;
  back : AreNamed l.variables → AreNamed (drop l.it-index l.variables);
  widths : AllByRecursion (λ v. v.expansion < 2 ^ 32) (drop l.it-index l.variables) → AllByRecursion (λ v. v.expansion < 2 ^ 32) l.variables;
}
