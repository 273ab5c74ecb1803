use Rattle.std.proofs.Common.{◌≡◌, subst}
use Rattle.std.proofs.lemmas.Result.{IfOk-weaker}
use Rattle.vcm_untried.specs.inner.Following.{IsOpening, readings}
use Rattle.vcm_untried.specs.Turned.{AreCountedTurned}
use Rattle.vcm_untried.proofs.Turns.{counted_turns}
use Rattle.vcm_untried.proofs.turned.count_turns.Goals as goal

pub count_steps-requires-clause-opening : goal.count_steps-requires-clause-opening
count_steps-requires-clause-opening g c =
    subst (λ k. IsOpening c.args.remarks.now k c.in_ok-progress.progress) c.statement_count.ensures.count (c.in_ok-progress.ensures c.args.remarks.now)

pub returns : goal.returns
returns g c =
    let remarks = c.args.remarks.now in
    let code = c.args.loaded.now in
    let m = c.args.machine.now in
    let run = c.in_ok-ran.ensures.run in
    let kept = c.in_ok-ran.ensures.kept in
    IfOk-weaker c.counts_with.result
    (λ x. (x.taken.items ≡ readings c.count_steps.new.progress.taken.items remarks) × (x.told ≡ c.count_steps.new.progress.told))
    (AreCountedTurned m.part m.probes m.variable code c.args.steps remarks)
    (λ x p. counted_turns m.part m.probes m.variable code c.args.steps c.count_steps.new.machine c.in_ok-ran.ran run remarks c.count_steps.new.progress x kept p.0 p.1)
    c.counts_with.ensures
