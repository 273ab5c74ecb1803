use Rattle.std.proofs.Common.{arith, rules}
use Rattle.std.proofs.lemmas.Grind.{common_steps}
use Rattle.vcm_num.proofs.Reading.{too_large}
use Rattle.vcm_num.proofs.read.number_with.Goals as goal

pub returns-then-number : goal.returns-then-number
returns-then-number c =
    too_large c.loop-byte.number _ _ _ c.loop-byte-test.true c.loop-byte.invariant.same (omega (arith, c.if-number.true))

pub returns-then-number-gt-MOST : goal.returns-then-number-gt-MOST
returns-then-number-gt-MOST c =
    too_large c.loop-byte.number _ _ _ c.loop-byte-test.true c.loop-byte.invariant.same (omega (arith, c.if-number-gt-MOST.true))

pub loop-byte-preserved : goal.loop-byte-preserved
loop-byte-preserved c = grind (arith, common_steps)

pub overflow_mul-number : goal.overflow_mul-number
overflow_mul-number c = search rules
