use Rattle.std.proofs.Common.{rules}
use Rattle.vcm_lines.proofs.phrase.mark_of.Goals as goal

pub returns-then-byte-eq45 : goal.returns-then-byte-eq45
returns-then-byte-eq45 c = search rules
