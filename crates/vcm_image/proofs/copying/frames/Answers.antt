use Rattle.std.proofs.Common.{sym, ap, ◌∙◌, Some}
use Rattle.vcm_image.proofs.Copies.{copied_more}
use Rattle.vcm_image.proofs.copying.frames.Goals as goal

pub loop-n-preserved : goal.loop-n-preserved
loop-n-preserved c = copied_more _ _ _ _ _ c.loop-n.invariant (c.frame.ensures.is ∙ ap Some (sym c.name.ensures)) c.in_ok-push.ensures.ok
