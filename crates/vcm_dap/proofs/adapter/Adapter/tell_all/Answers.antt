use Rattle.std.proofs.Common.{ap, subst}
use Rattle.vcm_debug.specs.Debugging.{Debugging}
use Rattle.vcm_dap.specs.Adapting.{Adapting}
use Rattle.vcm_dap.specs.Telling.{SaysBehind}
use Rattle.vcm_dap.proofs.Telling.{then_says, then_then}
use Rattle.vcm_dap.proofs.adapter.Adapter.tell_all.Goals as goal

pub returns : goal.returns
returns g c =
    let told = c.args.self.now.wanted.told in
    let d = c.args.self.now.session in
    let result =
    subst (λ (x : Debugging). SaysBehind x c.args.talk.now c.tell_result.new.talk) (ap (λ (a : Adapting). a.session) c.self.view_is) c.in_ok-tell_result.ensures in
    then_then told d c.args.talk.now c.tell_result.new.talk c.tell_end.new.talk c.tell_end.result (then_says told d c.args.talk.now c.tell_result.new.talk result)
    c.tell_end.ensures
