use Rattle.std.proofs.Common.{rules}
use Rattle.vcm_code.proofs.word.has_word.Goals as goal

pub returns-in-Two : goal.returns-in-Two
returns-in-Two c = search rules
