use Rattle.std.proofs.Common.{rules}
use Rattle.vcm_lines.proofs.dotted.dotted_word.Goals as goal

pub returns : goal.returns
returns c = search rules
