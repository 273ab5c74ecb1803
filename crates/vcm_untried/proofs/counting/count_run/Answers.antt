use Rattle.std.proofs.Common.{arith, ap, ◌∙◌}
use Rattle.vcm_untried.specs.inner.Following.{tabled}
use Rattle.vcm_untried.proofs.Ended.{if_both, kept_run}
use Rattle.vcm_untried.proofs.counting.count_run.Goals as goal

pub returns-clause-kept : goal.returns-clause-kept
returns-clause-kept g c =
    let remarks = c.args.remarks.now in
    let table = c.as_slice.ensures.value ∙ c.in_ok-table.ensures ∙ ap (tabled remarks) c.statement_count.ensures.count in
    let few = c.ranges.steps.fits in
    if_both c.follow_run.result
    (λ ran run has. kept_run c.args.machine.now.part c.args.loaded.now c.args.steps c.args.machine.now c.follow_run.new.machine ran c.requires.start (omega (arith, few)) run
    remarks c.as_slice.result.now c.args.progress.now c.follow_run.new.to table c.requires.opening has)
    c.follow_run.ensures.run c.follow_run.ensures.has
