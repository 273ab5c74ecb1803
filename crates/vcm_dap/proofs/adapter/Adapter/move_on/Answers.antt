use Rattle.std.proofs.Common.{subst}
use Rattle.std.specs.Prelude.{IfOk}
use Rattle.vcm_dap.specs.Adapting.{Wanted}
use Rattle.vcm_dap.specs.Telling.{SaysThen}
use Rattle.vcm_dap.proofs.Telling.{told_motion}
use Rattle.vcm_dap.proofs.adapter.Adapter.move_on.Goals as goal

pub returns-clause-told : goal.returns-clause-told
returns-clause-told g c =
    let behind =
    subst (λ (w : Wanted). IfOk c.tell_then.result (λ u. SaysThen w.told c.tell_output.new.self.session c.tell_output.new.talk c.tell_then.new.talk))
    c.tell_output.ensures.wanted c.tell_then.ensures in
    rw (← c.self.view_is)
    (told_motion c.args.talk.now c.answer_motion.new.talk c.tell_output.new.talk c.tell_then.new.talk _ _ _ c.tell_output.new.self.session
    c.in_ok-tell_output.field-0 c.tell_then.result c.in_ok-answer_motion.ensures c.in_ok-tell_output.ensures.told behind)
