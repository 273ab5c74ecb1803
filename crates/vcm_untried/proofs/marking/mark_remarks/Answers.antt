use Rattle.std.proofs.Common.{◌≡◌, subst, ◌∙◌, ap}
use Rattle.vcm_steps.specs.Passages.{passages}
use Rattle.vcm_untried.specs.Marking.{marks_in, unmarked, marked_behind}
use Rattle.vcm_untried.proofs.Ended.{whole_stopped, whole_counted}
use Rattle.vcm_untried.proofs.Markings.{all_marked}
use Rattle.vcm_untried.proofs.marking.mark_remarks.Goals as goal

pub returns-in-Count-clause-marked : goal.returns-in-Count-clause-marked
returns-in-Count-clause-marked g c =
    let part = g.P.Part.part c.args.part.now in
    let code = c.args.loaded.now in
    let remarks = c.args.remarks.now in
    let ran = c.in-Ok-mark_run.ran in
    let whole = whole_counted part code c.args.steps c.in-Ok.machine c.mark_run.new.machine ran c.in-Ok.ensures c.in-Ok-mark_run.ensures.run c.in-Count.is in
    let kept : marks_in c.mark_run.new.to ≡ marked_behind remarks (marks_in c.unmarked-marking.result) (passages part code ran.done) =
    subst (λ m. marks_in c.mark_run.new.to ≡ marked_behind remarks (marks_in c.unmarked-marking.result) (passages m.part code ran.done)) c.in-Ok.ensures c.in-Ok-mark_run.ensures.marked in
    all_marked remarks part code c.args.steps ran.done c.mark_run.new.to whole (kept ∙ ap (λ m. marked_behind remarks m (passages part code ran.done)) c.unmarked-marking.ensures)

pub returns-clause-marked : goal.returns-clause-marked
returns-clause-marked g c =
    let part = g.P.Part.part c.args.part.now in
    let code = c.args.loaded.now in
    let remarks = c.args.remarks.now in
    let ran = c.in-Ok-mark_run.ran in
    let whole = whole_stopped part code c.args.steps c.in-Ok.machine c.mark_run.new.machine ran c.in-Ok.ensures c.in-Ok-mark_run.ensures.run c.in-Stopped.is in
    let kept : marks_in c.mark_run.new.to ≡ marked_behind remarks (marks_in c.unmarked-marking.result) (passages part code ran.done) =
    subst (λ m. marks_in c.mark_run.new.to ≡ marked_behind remarks (marks_in c.unmarked-marking.result) (passages m.part code ran.done)) c.in-Ok.ensures c.in-Ok-mark_run.ensures.marked in
    all_marked remarks part code c.args.steps ran.done c.mark_run.new.to whole (kept ∙ ap (λ m. marked_behind remarks m (passages part code ran.done)) c.unmarked-marking.ensures)
