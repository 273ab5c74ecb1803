use Rattle.std.proofs.Common.{inl, inr, ap, ◌∙◌}
use Rattle.std.specs.Prelude.{codes}
use Rattle.vcm_console.specs.declared.reply.Standing.{Standing}
use Rattle.vcm_report.specs.Printed.{no_stop_line}
use Rattle.vcm_dap.proofs.Telling.{behind_text, text_told}
use Rattle.vcm_dap.proofs.standing.tell_no_stop.Goals as goal

pub returns : goal.returns
returns g c =
    behind_text c.args.session.now c.args.talk.now c.tell_text.new.self (codes "stdout") c.deref.result.now c.tell_text.result
    (inr (inl (c.deref.ensures.value ∙ c.in_ok-text.ensures ∙ ap (λ (s : Standing). no_stop_line s.steps) c.standing.ensures)))
    (text_told c.args.talk.now c.tell_text.new.self (codes "stdout") c.deref.result.now c.tell_text.result c.tell_text.ensures.told)
