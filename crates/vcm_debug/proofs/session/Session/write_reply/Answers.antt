use Rattle.std.proofs.Common.{sym, ap, ◌∙◌, subst}
use Rattle.vcm_num.specs.Written.{Wrote}
use Rattle.vcm_console.specs.Replies.{ReplyFits, reply_text}
use Rattle.vcm_debug.specs.Debugging.{now}
use Rattle.vcm_debug.proofs.session.Session.write_reply.Goals as goal

pub write_reply-requires-clause-fits : goal.write_reply-requires-clause-fits
write_reply-requires-clause-fits g c =
    let i = c.self.inside in
    let e = c.lines.ensures ∙ ap (λ w. w.lines) c.world-world.ensures.state ∙ ap (λ m. m.state.world.lines) c.self.invariant.0.reached in
    subst (λ l. ReplyFits i.loaded.now l c.args.reply.now) (sym e) (subst (λ d. ReplyFits d.code (now d).world.lines c.args.reply.now) (sym c.self.view_is) c.requires)

pub returns : goal.returns
returns g c =
    let i = c.self.inside in
    let a = g.W.Write.contents c.args.writer.now in
    let b = g.W.Write.contents c.write_reply.new.writer in
    let e = c.lines.ensures ∙ ap (λ w. w.lines) c.world-world.ensures.state ∙ ap (λ m. m.state.world.lines) c.self.invariant.0.reached in
    subst (λ d. Wrote a b (reply_text d.code (now d).world.lines c.args.reply.now) c.write_reply.result) c.self.view_is
    (subst (λ l. Wrote a b (reply_text i.loaded.now l c.args.reply.now) c.write_reply.result) e c.write_reply.ensures)
