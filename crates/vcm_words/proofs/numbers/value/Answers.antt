use Rattle.std.proofs.Common.{arith}
use Rattle.vcm_words.proofs.NumberLaws.{one_too_many}
use Rattle.vcm_words.proofs.numbers.value.Goals as goal

pub returns-then-number-digit : goal.returns-then-number-digit
returns-then-number-digit c =
    one_too_many c.loop-byte.number _ _ c.loop-byte-test.true c.loop-byte.invariant.same (omega (arith, c.if-number-digit.true))
