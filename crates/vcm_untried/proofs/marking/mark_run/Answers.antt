use Rattle.std.proofs.Common.{ap, ◌∙◌}
use Rattle.vcm_untried.specs.inner.Following.{tabled}
use Rattle.vcm_untried.proofs.Ended.{if_both, all_within}
use Rattle.vcm_untried.proofs.Markings.{marking_run}
use Rattle.vcm_untried.proofs.marking.mark_run.Goals as goal

pub returns-clause-marked : goal.returns-clause-marked
returns-clause-marked g c =
    let remarks = c.args.remarks.now in
    let code = c.args.loaded.now in
    let table = c.as_slice.ensures.value ∙ c.in_ok-table.ensures ∙ ap (tabled remarks) c.statement_count.ensures.count in
    if_both c.follow_run.result
    (λ ran run has. has (marking_run remarks c.as_slice.result.now _ _ table (all_within c.args.machine.now.part code ran.done)))
    c.follow_run.ensures.run c.follow_run.ensures.has
