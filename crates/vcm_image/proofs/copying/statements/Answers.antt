use Rattle.std.proofs.Common.{sym, ap, ◌∙◌, Some}
use Rattle.vcm_code.proofs.Copies.{same_statement}
use Rattle.vcm_image.proofs.Copies.{copied_more}
use Rattle.vcm_image.proofs.copying.statements.Goals as goal

pub loop-n-preserved : goal.loop-n-preserved
loop-n-preserved c = copied_more _ _ _ _ _ c.loop-n.invariant (c.statement.ensures ∙ ap Some (sym (c.in_ok-to_owned.ensures ∙ same_statement _))) c.in_ok-push.ensures.ok
