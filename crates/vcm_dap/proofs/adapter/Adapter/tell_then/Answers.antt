use Rattle.std.proofs.Common.{ap, subst}
use Rattle.std.specs.Prelude.{IfOk}
use Rattle.vcm_debug.specs.Debugging.{Debugging}
use Rattle.vcm_dap.specs.Adapting.{Adapting}
use Rattle.vcm_dap.specs.Telling.{SaysBehind}
use Rattle.vcm_dap.proofs.Telling.{then_behind}
use Rattle.vcm_dap.proofs.adapter.Adapter.tell_then.Goals as goal

pub returns-in-Stands : goal.returns-in-Stands
returns-in-Stands g c =
    let stands =
    subst (λ (x : Debugging). IfOk c.stand.result (λ u. SaysBehind x c.args.talk.now c.stand.new.talk)) (ap (λ (a : Adapting). a.session) c.self.view_is) c.stand.ensures in
    then_behind c.args.self.now.wanted.told c.args.self.now.session c.args.talk.now c.stand.new.talk c.stand.result stands
