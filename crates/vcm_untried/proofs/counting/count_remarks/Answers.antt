use Rattle.std.proofs.Common.{length, subst}
use Rattle.vcm_steps.specs.Passages.{passages}
use Rattle.vcm_untried.specs.inner.Following.{IsOpening, IsKept}
use Rattle.vcm_untried.proofs.Ended.{whole_stopped, whole_counted, counted, if_both}
use Rattle.vcm_untried.proofs.counting.count_remarks.Goals as goal

pub count_run-requires-clause-opening : goal.count_run-requires-clause-opening
count_run-requires-clause-opening g c =
    subst (λ k. IsOpening c.args.remarks.now k c.in-Ok-opening.progress) c.statement_count.ensures.count (c.in-Ok-opening.ensures c.args.remarks.now)

pub returns-in-Count-clause-counted : goal.returns-in-Count-clause-counted
returns-in-Count-clause-counted g c =
    let part = g.P.Part.part c.args.part.now in
    let code = c.args.loaded.now in
    let remarks = c.args.remarks.now in
    let ran = c.in-Ok-count_run.ran in
    let whole = whole_counted part code c.args.steps c.in-Ok.machine c.count_run.new.machine ran c.in-Ok.ensures c.in-Ok-count_run.ensures.run c.in-Count.is in
    let kept = subst (λ m. IsKept remarks (length code.statements) (passages m.part code ran.done) c.count_run.new.progress) c.in-Ok.ensures c.in-Ok-count_run.ensures.kept in
    if_both c.counts_of.result (λ x p q. counted part code c.args.steps ran.done remarks c.count_run.new.progress x whole kept p.0 p.1)
    c.counts_of.ensures.counts c.counts_of.ensures.counts

pub returns-clause-counted : goal.returns-clause-counted
returns-clause-counted g c =
    let part = g.P.Part.part c.args.part.now in
    let code = c.args.loaded.now in
    let remarks = c.args.remarks.now in
    let ran = c.in-Ok-count_run.ran in
    let whole = whole_stopped part code c.args.steps c.in-Ok.machine c.count_run.new.machine ran c.in-Ok.ensures c.in-Ok-count_run.ensures.run c.in-Stopped.is in
    let kept = subst (λ m. IsKept remarks (length code.statements) (passages m.part code ran.done) c.count_run.new.progress) c.in-Ok.ensures c.in-Ok-count_run.ensures.kept in
    if_both c.counts_of-in-Stopped.result (λ x p q. counted part code c.args.steps ran.done remarks c.count_run.new.progress x whole kept p.0 p.1)
    c.counts_of-in-Stopped.ensures.counts c.counts_of-in-Stopped.ensures.counts
