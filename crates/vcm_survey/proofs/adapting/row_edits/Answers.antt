use Rattle.std.proofs.Common.{◌≡◌, ◌∷◌, refl, ap, ◌∙◌}
use Rattle.vcm_survey.specs.Edits.{row_edits}
use Rattle.std.specs.Vec.Iter.{into_iter_items, into_iter_len}
use Rattle.vcm_survey.proofs.Turns.{more_taken, all_taken}
use Rattle.vcm_survey.proofs.adapting.row_edits.Goals as goal

pub rows-preserved : goal.rows-preserved
rows-preserved c =
    let now = c.rows in
    let next : into_iter_items now.row-iterator ≡ c.in-Some.row ∷ into_iter_items c.next.new.self = c.in-Some.ensures.steps.0 in
    rw (c.in_ok-push.ensures.items, c.edit_of.ensures)
    (more_taken _ now.yielded (into_iter_items now.row-iterator) (into_iter_items c.next.new.self) c.in-Some.row (into_iter_len now.row-iterator)
    (into_iter_len c.next.new.self) now.edits.items next c.in-Some.ensures.steps.1 now.invariant)

pub returns : goal.returns
returns c =
    let now = c.rows in
    all_taken _ now.yielded (into_iter_items now.row-iterator) (into_iter_len now.row-iterator) now.edits.items c.in-None.ensures.steps.0 now.invariant
    ∙ ap row_edits c.into_iter-row-iterator.ensures.into_iter_gives.0
