use Rattle.std.proofs.Common.{rules}
use Rattle.vcm_syntax.proofs.macros.quoted_parameter.Goals as goal

pub returns-then-is_variable_name : goal.returns-then-is_variable_name
returns-then-is_variable_name c = search rules
