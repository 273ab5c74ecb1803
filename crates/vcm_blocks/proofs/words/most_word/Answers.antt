use Rattle.vcm_blocks.proofs.Numbers.{most_is, no_most, other_most}
use Rattle.vcm_blocks.proofs.words.most_word.Goals as goal

pub returns-in-Ok-clause-some : goal.returns-in-Ok-clause-some
returns-in-Ok-clause-some c = most_is c.args.word.now c.in-Ok.number c.count_of.result c.in-Ok.ensures c.count_of.ensures.some

pub returns-in-Ok-clause-none : goal.returns-in-Ok-clause-none
returns-in-Ok-clause-none c = λ e. other_most c.args.word.now c.in-Ok.number c.in-Ok.ensures (c.count_of.ensures.none e)

pub returns-in-Err-clause-none : goal.returns-in-Err-clause-none
returns-in-Err-clause-none c = λ e. no_most c.args.word.now c.in-Err.field-0 c.in-Err.ensures
