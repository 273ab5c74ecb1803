use Rattle.std.proofs.Common.{sym, ap, ◌∙◌, Some}
use Rattle.vcm_image.proofs.Copies.{copied_more}
use Rattle.vcm_image.proofs.copying.variables.Goals as goal

pub loop-n-preserved : goal.loop-n-preserved
loop-n-preserved c = copied_more _ _ _ _ _ c.loop-n.invariant (c.variable.ensures.is ∙ ap Some (sym c.variable-in-loop-n.ensures)) c.in_ok-push.ensures.ok
