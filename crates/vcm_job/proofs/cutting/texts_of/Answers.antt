use Rattle.std.proofs.Common.{sym, ◌∙◌, arith, rules}
use Rattle.vcm_job.proofs.CutJobs.{less_left, program_at_mark, part_at_end, program_at_end}
use Rattle.vcm_job.proofs.cutting.texts_of.Goals as goal

pub returns-then-is_mark-clause-program : goal.returns-then-is_mark-clause-program
returns-then-is_mark-clause-program c =
    program_at_mark c.args.input.now c.loop-rest.rest.now _ c.whole_line.result.1.now c.loop-rest.invariant c.whole_line.ensures.cut (sym c.is_mark.ensures ∙ c.if-is_mark.true)

pub loop-rest-preserved : goal.loop-rest-preserved
loop-rest-preserved c =
    less_left c.args.input.now c.loop-rest.rest.now _ c.whole_line.result.1.now c.loop-rest.invariant c.whole_line.ensures.cut c.whole_line.ensures.parts (sym c.is_mark.ensures ∙ c.if-is_mark.false)

pub returns-clause-part : goal.returns-clause-part
returns-clause-part c = part_at_end c.args.input.now c.loop-rest.rest.now c.loop-rest.invariant (grind (arith, rules, c.loop-rest-test.false))

pub returns-clause-program : goal.returns-clause-program
returns-clause-program c = program_at_end c.args.input.now c.loop-rest.rest.now c.loop-rest.invariant (grind (arith, rules, c.loop-rest-test.false))
