use Rattle.std.proofs.Common.{rules}
use Rattle.vcm_spec.proofs.texts.is_text.Goals as goal

pub returns-then-bytes-le-LONGEST_TEXT : goal.returns-then-bytes-le-LONGEST_TEXT
returns-then-bytes-le-LONGEST_TEXT c = search rules
