use Rattle.std.proofs.Common.{sym, ◌∙◌}
use Rattle.vcm_story.proofs.following.write_passage.Goals as goal

pub returns-then-is_last : goal.returns-then-is_last
returns-then-is_last g c = λ before.
    rw (sym c.is_before.ensures ∙ c.if-is_before.false, sym c.is_last.ensures ∙ c.if-is_last.true) c.write_state.ensures

pub returns-else-is_last : goal.returns-else-is_last
returns-else-is_last g c = λ before.
    rw (sym c.is_before.ensures ∙ c.if-is_before.false, sym c.is_last.ensures ∙ c.if-is_last.false) (c.write_step_rows.ensures before)
