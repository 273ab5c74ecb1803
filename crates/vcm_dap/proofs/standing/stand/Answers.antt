use Rattle.std.proofs.Common.{ap, ◌∙◌}
use Rattle.std.specs.Prelude.{ℕ, List, Some}
use Rattle.vcm_dap.proofs.Telling.{stop_told}
use Rattle.vcm_dap.proofs.standing.stand.Goals as goal

pub returns-in-Some-2 : goal.returns-in-Some-2
returns-in-Some-2 g c =
    c.stand_stopped.ensures c.args.session.now
    (stop_told c.args.session.now c.deref.result.now
    (ap (λ (l : List ℕ). Some l) c.deref.ensures.value ∙ (rw c.in-Some-2.is at c.in_ok-line.ensures)))
