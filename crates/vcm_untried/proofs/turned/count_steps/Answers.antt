use Rattle.std.proofs.Common.{ap, ◌∙◌}
use Rattle.vcm_untried.specs.inner.Following.{tabled}
use Rattle.vcm_untried.proofs.Ended.{if_both}
use Rattle.vcm_untried.proofs.Turns.{kept_turns}
use Rattle.vcm_untried.proofs.turned.count_steps.Goals as goal

pub returns-clause-kept : goal.returns-clause-kept
returns-clause-kept g c =
    let remarks = c.args.remarks.now in
    let m = c.args.machine.now in
    let table = c.as_slice.ensures.value ∙ c.in_ok-table.ensures ∙ ap (tabled remarks) c.statement_count.ensures.count in
    let few = c.ranges.steps.fits in
    if_both c.follow_turns.result
    (λ ran run has. kept_turns m.part m.probes m.variable c.args.loaded.now c.args.steps c.follow_turns.new.machine ran few run
    remarks c.as_slice.result.now c.args.progress.now c.follow_turns.new.to table c.requires.opening has)
    c.follow_turns.ensures.run c.follow_turns.ensures.has
