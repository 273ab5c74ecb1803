use Rattle.std.proofs.Common.{arith}
use Rattle.std.proofs.lemmas.Grind.{common_steps}
use Rattle.vcm_lines.proofs.lines.without_mark.Goals as goal

pub returns-then-starts_with : goal.returns-then-starts_with
returns-then-starts_with c = grind (arith, common_steps)
