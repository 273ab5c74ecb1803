use Rattle.vcm_blocks.proofs.Turning.{length_is}
use Rattle.vcm_blocks.proofs.Numbers.{no_number, too_far}
use Rattle.vcm_blocks.proofs.words.millimetres.Goals as goal

pub returns-in-Ok-clause-some : goal.returns-in-Ok-clause-some
returns-in-Ok-clause-some c = length_is c.args.word.now c.in-Ok.number c.micrometres.result c.in-Ok.ensures c.micrometres.ensures.some

pub returns-in-Ok-clause-none : goal.returns-in-Ok-clause-none
returns-in-Ok-clause-none c = λ e. too_far c.args.word.now c.in-Ok.number c.in-Ok.ensures (c.micrometres.ensures.none e)

pub returns-in-Err-clause-none : goal.returns-in-Err-clause-none
returns-in-Err-clause-none c = λ e. no_number c.args.word.now c.in-Err.field-0 c.in-Err.ensures
