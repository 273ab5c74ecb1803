use Rattle.std.proofs.Common.{rules}
use Rattle.vcm_syntax.proofs.places.word.Goals as goal

pub returns-else-is : goal.returns-else-is
returns-else-is c = search rules
