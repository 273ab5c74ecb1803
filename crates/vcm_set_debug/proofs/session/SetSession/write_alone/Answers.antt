use Rattle.std.proofs.Common.{ap, ◌∙◌, subst}
use Rattle.vcm_num.specs.Written.{Wrote}
use Rattle.vcm_console.specs.Replies.{reply_text}
use Rattle.vcm_set_debug.specs.Reached.{now}
use Rattle.vcm_set_debug.specs.Session.{world}
use Rattle.vcm_set_debug.proofs.session.SetSession.write_alone.Goals as goal

pub returns : goal.returns
returns g c =
    let i = c.self.inside in
    let a = g.W.Write.contents c.args.writer.now in
    let b = g.W.Write.contents c.write_reply.new.writer in
    let e = c.lines.ensures ∙ ap (λ w. w.lines) c.world-world.ensures.state in
    subst (λ d. Wrote a b (reply_text d.run.code (world d).lines c.args.reply.now) c.write_reply.result) c.self.view_is
    (subst (λ k. Wrote a b (reply_text k (now i.course).state.world.lines c.args.reply.now) c.write_reply.result) c.loaded.ensures
    (subst (λ l. Wrote a b (reply_text c.loaded.result.now l c.args.reply.now) c.write_reply.result) e c.write_reply.ensures))
