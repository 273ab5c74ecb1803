use Rattle.std.proofs.Common.{◌≡◌, ◌++◌, drop, map}
use Rattle.vcm_said.specs.Cases.{case_value}
use Rattle.vcm_said.specs.All.{on_line}
use Rattle.vcm_said.proofs.cases.say_values.Given as goal

abbrev pub invariant-loop-value : goal.invariant-loop-value
invariant-loop-value l = record {
  left : l.out.items ++ on_line l.line (map case_value (drop l.value-index l.values)) ≡ l.initial.out.items ++ on_line l.line (map case_value l.values);
}
