use Rattle.std.proofs.Common.{rules}
use Rattle.vcm_lines.proofs.logical.Words.copied.Goals as goal

pub returns : goal.returns
returns c = search rules
