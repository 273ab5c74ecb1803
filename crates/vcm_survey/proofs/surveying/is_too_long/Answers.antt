use Rattle.std.proofs.Common.{arith}
use Rattle.std.proofs.lemmas.Grind.{common_steps}
use Rattle.vcm_survey.proofs.TextLines.{not_too_long, told_so}
use Rattle.vcm_survey.proofs.surveying.is_too_long.Goals as goal

pub returns-then-is_empty : goal.returns-then-is_empty
returns-then-is_empty c =
    not_too_long c.args.text.now c.loop-count.rest.now c.loop-count.count (grind (arith, common_steps)) (omega (arith, c.loop-count-test.true)) c.loop-count.invariant.whole

pub returns : goal.returns
returns c =
    told_so c.args.text.now c.loop-count.rest.now c.loop-count.count _ c.is_empty-2.ensures c.loop-count.auto.count-end c.loop-count-test.false c.loop-count.invariant.whole
