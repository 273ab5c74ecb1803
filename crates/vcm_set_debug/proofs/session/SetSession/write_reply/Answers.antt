use Rattle.std.proofs.Common.{refl, subst}
use Rattle.vcm_num.specs.Written.{Wrote}
use Rattle.vcm_num.proofs.KnownWrites.{wrote_then}
use Rattle.vcm_set_debug.specs.Telling.{reply_lines}
use Rattle.vcm_set_debug.proofs.session.SetSession.write_reply.Goals as goal

pub returns : goal.returns
returns g c =
    let b = g.W.Write.contents c.write_alone.new.writer in
    let e = g.W.Write.contents c.write_reply_lines.new.writer in
    wrote_then _ _ _ _ _ _ _ refl c.in_ok-write_alone.ensures
    (subst (λ d. Wrote b e (reply_lines d.run c.args.reply.now) c.write_reply_lines.result) c.self.view_is c.write_reply_lines.ensures)
