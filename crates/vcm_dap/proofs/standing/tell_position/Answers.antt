use Rattle.std.proofs.Common.{inl, inr, ap, ◌∙◌}
use Rattle.std.specs.Prelude.{codes}
use Rattle.vcm_spec.specs.World.{World}
use Rattle.vcm_report.specs.Printed.{position_line}
use Rattle.vcm_dap.proofs.Telling.{behind_text, text_told}
use Rattle.vcm_dap.proofs.standing.tell_position.Goals as goal

pub returns : goal.returns
returns g c =
    behind_text c.args.session.now c.args.talk.now c.tell_text.new.self (codes "stdout") c.deref.result.now c.tell_text.result
    (inr (inr (inl (c.deref.ensures.value ∙ c.in_ok-text.ensures ∙ ap position_line (c.position.ensures ∙ ap (λ (w : World). w.position) c.world.ensures.state)))))
    (text_told c.args.talk.now c.tell_text.new.self (codes "stdout") c.deref.result.now c.tell_text.result c.tell_text.ensures.told)
