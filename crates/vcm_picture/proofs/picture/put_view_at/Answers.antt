use Rattle.vcm_picture.specs.Drawing.{scene, view_text}
use Rattle.vcm_picture.specs.Picture.{view_spot}
use Rattle.vcm_picture.specs.Sights.{Scope}
use Rattle.vcm_svg.specs.declared.rect.Spot.{Spot}
use Rattle.vcm_svg.proofs.Appended.{last_same}
use Rattle.vcm_picture.proofs.picture.put_view_at.Goals as goal

pub returns : goal.returns
returns c =
    let shown = scene c.args.part.now c.args.world.now c.args.stopped.now in
    let marks = c.args.marks.now in
    last_same _ _ _ (λ (s : Scope). view_text s (view_spot c.args.layout c.args.view) shown marks) _ _ c.scope_of-scope.ensures
    (last_same _ _ _ (λ (a : Spot). view_text c.scope_of-scope.result a shown marks) _ _ c.view_spot-at.ensures c.put_view.ensures)
