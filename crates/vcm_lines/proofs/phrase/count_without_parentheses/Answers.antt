use Rattle.std.proofs.Common.{rules}
use Rattle.vcm_lines.proofs.phrase.count_without_parentheses.Goals as goal

pub returns : goal.returns
returns c = search rules
