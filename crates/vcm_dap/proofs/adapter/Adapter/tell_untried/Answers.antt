use Rattle.std.proofs.Common.{sym, ap, ◌∙◌}
use Rattle.std.specs.Prelude.{option_map}
use Rattle.vcm_dap.proofs.Telling.{then_untried}
use Rattle.vcm_dap.proofs.adapter.Adapter.tell_untried.Goals as goal

pub returns-in-Some : goal.returns-in-Some
returns-in-Some g c =
    rw (← c.self.view_is)
    (then_untried _ c.in-Some.text.now _ c.args.talk.now c.tell_text.new.self c.tell_text.result
    (sym c.told_at_end.ensures ∙ ap (option_map (λ t. t.now)) c.in-Some.is) c.tell_text.ensures.told)
