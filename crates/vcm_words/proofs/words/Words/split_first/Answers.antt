use Rattle.std.proofs.Common.{rules}
use Rattle.vcm_words.proofs.words.Words.split_first.Goals as goal

pub returns : goal.returns
returns c = search rules
