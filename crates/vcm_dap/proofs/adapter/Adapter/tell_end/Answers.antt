use Rattle.std.proofs.Common.{ap, subst}
use Rattle.std.specs.Prelude.{IfOk}
use Rattle.vcm_debug.specs.Debugging.{Debugging}
use Rattle.vcm_dap.specs.Adapting.{Adapting}
use Rattle.vcm_dap.specs.Telling.{SaysBehind}
use Rattle.vcm_dap.proofs.Telling.{then_behind, then_then}
use Rattle.vcm_dap.proofs.adapter.Adapter.tell_end.Goals as goal

pub returns : goal.returns
returns g c =
    let told = c.args.self.now.wanted.told in
    let d = c.args.self.now.session in
    let ends =
    subst (λ (x : Debugging). IfOk c.finish.result (λ u. SaysBehind x c.tell_untried.new.talk c.finish.new.talk)) (ap (λ (a : Adapting). a.session) c.self.view_is)
    c.finish.ensures in
    then_then told d c.args.talk.now c.tell_untried.new.talk c.finish.new.talk c.finish.result c.in_ok-tell_untried.ensures
    (then_behind told d c.tell_untried.new.talk c.finish.new.talk c.finish.result ends)
