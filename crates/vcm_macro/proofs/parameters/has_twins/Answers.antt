use Rattle.std.proofs.Common.{rules}
use Rattle.vcm_macro.proofs.parameters.has_twins.Goals as goal

pub each-init : goal.each-init
each-init c = search rules

pub returns-then-is_parameter : goal.returns-then-is_parameter
returns-then-is_parameter c = search rules

pub each-preserved : goal.each-preserved
each-preserved c = search rules
