use Rattle.std.proofs.Common.{◌∷◌, [], ◌∙◌, ap}
use Rattle.std.specs.Prelude.{codes}
use Rattle.vcm_svg.specs.Pieces.{joined}
use Rattle.vcm_svg.specs.Outlines.{outline_text}
use Rattle.vcm_picture.specs.Drawing.{frame_of}
use Rattle.vcm_picture.specs.View.{clip, scope_of}
use Rattle.vcm_svg.proofs.Appended.{three, text_same}
use Rattle.vcm_picture.proofs.picture.put_clip.Goals as goal

pub returns : goal.returns
returns c =
    three _ _ _ _ _ (joined (codes "<clipPath id=\"v" ∷ clip c.args.view ∷ codes "\"><path d=\"" ∷ []))
    (outline_text (frame_of (scope_of c.args.window c.args.view))) (codes "\"/></clipPath>\n")
    (text_same _ _ (λ d. joined (codes "<clipPath id=\"v" ∷ d ∷ codes "\"><path d=\"" ∷ [])) _ _ c.clip.ensures c.in_ok-put.ensures)
    (text_same _ _ outline_text _ _ (c.frame_of.ensures ∙ ap frame_of c.scope_of-scope.ensures) c.in_ok-put_outline.ensures)
    c.put-2.ensures
