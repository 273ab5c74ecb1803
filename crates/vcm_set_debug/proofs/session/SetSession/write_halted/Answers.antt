use Rattle.std.proofs.Common.{ap, ◌∙◌, subst}
use Rattle.vcm_num.specs.Written.{Wrote}
use Rattle.vcm_console.specs.Replies.{halt_text}
use Rattle.vcm_debug.specs.Session.{standing}
use Rattle.vcm_set_debug.specs.Reached.{now}
use Rattle.vcm_set_debug.proofs.session.SetSession.write_halted.Goals as goal

pub returns : goal.returns
returns g c =
    let a = g.W.Write.contents c.args.writer.now in
    let b = g.W.Write.contents c.write_halt.new.writer in
    let d = c.args.self.now in
    let e = c.tables.ensures ∙ c.world.ensures.tables ∙ ap (λ x. x.run.code.tables) c.self.view_is in
    subst (λ s. Wrote a b (halt_text d.run.code.tables s) c.write_halt.result) {y = standing d.run.code d.run.count (now d.run).state} c.standing.ensures
    (subst (λ t. Wrote a b (halt_text t c.standing.result) c.write_halt.result) e c.write_halt.ensures)
