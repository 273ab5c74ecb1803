use Rattle.std.proofs.Common.{arith, inr, ap, sym, ◌∙◌, Err}
use Rattle.std.proofs.lemmas.Bool.{eqb-true}
use Rattle.vcm_listing.proofs.ReadLaws.{few_lines, line_left, line_fails, all_read, unended, cut_shorter, not_zero, bad_line}
use Rattle.vcm_listing.proofs.reading.lines.Goals as goal

pub returns-in-Err : goal.returns-in-Err
returns-in-Err c = line_fails _ _ _ _ _ _ c.in-Some.after.now c.in-Err.e _ c.loop-text.invariant c.in-Some.ensures.some c.in-Err.ensures.err c.at_line.ensures.want c.at_line.ensures.told

pub overflow_add-line : goal.overflow_add-line
overflow_add-line c = let few = few_lines _ _ _ _ _ c.loop-text.invariant in record { fits = omega (arith, few) }

pub loop-text-smaller : goal.loop-text-smaller
loop-text-smaller c = cut_shorter _ _ c.in-Some.after.now c.in-Some.ensures.some

pub loop-text-preserved : goal.loop-text-preserved
loop-text-preserved c = line_left _ _ _ _ _ _ _ c.in-Some.after.now c.loop-text.invariant c.in-Some.ensures.some c.in_default-step.ensures.ok

pub returns-then-is_empty : goal.returns-then-is_empty
returns-then-is_empty c = all_read _ _ _ _ _ _ c.loop-text.invariant c.in_default.ensures.none.1 (eqb-true _ _ (sym c.if-is_empty.ensures))

pub returns-else-is_empty : goal.returns-else-is_empty
returns-else-is_empty c =
    inr (unended _ _ _ _ _ _ c.loop-text.invariant c.in_default.ensures.none.1 (not_zero _ (sym c.is_empty.ensures ∙ c.if-is_empty.false))
    ∙ ap (λ f. Err f) (sym (c.at_line-else-is_empty.ensures.told bad_line)))
