use Rattle.vcm_expr.proofs.NumberReading.{reads_of, reads_same}
use Rattle.vcm_expr.proofs.laws.numbers_are_read.Goals as goal

pub returns-clause-read : goal.returns-clause-read
returns-clause-read c = reads_of

pub returns-clause-one : goal.returns-clause-one
returns-clause-one c = reads_same
