use Rattle.std.proofs.Common.{pos, rules, w64, FitsSigned, to_z-of_z}
use Rattle.vcm_picture.specs.Picture.{clips_text, views}
use Rattle.vcm_svg.specs.declared.outlines.Outline.TheVariants.{Rectangle}
use Rattle.vcm_svg.specs.Rect.{spot}
use Rattle.vcm_svg.specs.Shapes.{path}
use Rattle.vcm_svg.specs.declared.shapes.Class.TheVariants as class
use Rattle.vcm_svg.proofs.Appended.{two}
use Rattle.vcm_picture.proofs.picture.put_background.Goals as goal

pub returns : goal.returns
returns c =
    let l = c.layout.inside in
    let fw : FitsSigned w64 l.wide = search rules in
    let fh : FitsSigned w64 l.high = search rules in
    rw (← c.layout.view_is) (two _ _ _ _ (clips_text c.args.window views) (path class.Sheet (Rectangle (spot (pos 0) (pos 0)) l.wide l.high)) c.in_ok-put_clips.ensures
    (simp to_z-of_z at c.put_path.ensures))
