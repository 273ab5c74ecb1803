use Rattle.std.proofs.Common.{ap, ◌∙◌}
use Rattle.std.specs.Prelude.{ℕ, List, Some}
use Rattle.vcm_dap.proofs.Telling.{behind_text, stop_told}
use Rattle.vcm_dap.proofs.standing.tell_end.Goals as goal

pub returns-in-Some-2 : goal.returns-in-Some-2
returns-in-Some-2 g c =
    behind_text c.args.session.now c.args.talk.now c.tell_placed.new.talk _ c.deref.result.now c.tell_placed.result
    (stop_told c.args.session.now c.deref.result.now
    (ap (λ (l : List ℕ). Some l) c.deref.ensures.value ∙ (rw c.in-Some-2.is at c.in_ok-line.ensures)))
    c.tell_placed.ensures.told
