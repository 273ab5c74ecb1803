use Rattle.std.proofs.Common.{rules}
use Rattle.vcm_probe.proofs.settings.Settings.with.Goals as goal

pub invariant_of-result : goal.invariant_of-result
invariant_of-result c = search rules

pub returns-in_ok-in_range-in-Approach : goal.returns-in_ok-in_range-in-Approach
returns-in_ok-in_range-in-Approach c = search rules

pub returns-in_ok-in_range-in-Search : goal.returns-in_ok-in_range-in-Search
returns-in_ok-in_range-in-Search c = search rules
