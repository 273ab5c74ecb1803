use Rattle.std.proofs.Common.{rules}
use Rattle.vcm_lines.proofs.logical.OwnedBytes.copied.Goals as goal

pub returns : goal.returns
returns c = search rules
