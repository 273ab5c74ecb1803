use Rattle.vcm_untried.proofs.Ordered.{rows_are_in_order}
use Rattle.vcm_untried.proofs.Sorted.{groups_are_in_order}
use Rattle.vcm_untried.proofs.laws.told_is_in_order.Goals as goal

pub returns-clause-rows : goal.returns-clause-rows
returns-clause-rows c = rows_are_in_order

pub returns-clause-groups : goal.returns-clause-groups
returns-clause-groups c = groups_are_in_order
