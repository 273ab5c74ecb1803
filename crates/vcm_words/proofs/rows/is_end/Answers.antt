use Rattle.std.proofs.Common.{rules}
use Rattle.vcm_words.proofs.rows.is_end.Goals as goal

pub returns-in-Some-clause-so : goal.returns-in-Some-clause-so
returns-in-Some-clause-so c = search rules
