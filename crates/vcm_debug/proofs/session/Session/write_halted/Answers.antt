use Rattle.std.proofs.Common.{ap, ◌∙◌, subst}
use Rattle.vcm_num.specs.Written.{Wrote}
use Rattle.vcm_console.specs.Replies.{halt_text}
use Rattle.vcm_debug.specs.Debugging.{now}
use Rattle.vcm_debug.specs.Session.{standing}
use Rattle.vcm_debug.proofs.session.Session.write_halted.Goals as goal

pub returns : goal.returns
returns g c =
    let a = g.W.Write.contents c.args.writer.now in
    let b = g.W.Write.contents c.write_halt.new.writer in
    let e = c.tables.ensures ∙ c.world.ensures.tables ∙ ap (λ m. m.code.tables) c.self.invariant.0.reached ∙ ap (λ d. d.code.tables) c.self.view_is in
    subst (λ s. Wrote a b (halt_text c.args.self.now.code.tables s) c.write_halt.result)
    {y = standing c.args.self.now.code c.args.self.now.count (now c.args.self.now)} c.standing.ensures
    (subst (λ t. Wrote a b (halt_text t c.standing.result) c.write_halt.result) e c.write_halt.ensures)
