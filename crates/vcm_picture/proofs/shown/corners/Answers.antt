use Rattle.std.proofs.Common.{◌+ℤ◌, ◌-ℤ◌, ◌*ℤ◌, pos, refl, w64, FitsSigned, to_z-of_z}
use Rattle.vcm_picture.proofs.Boxes.{corners_fit}
use Rattle.vcm_picture.proofs.shown.corners.Goals as goal

pub returns : goal.returns
returns c =
    let r = c.rect-left.result in
    let u = c.get-unit.result in
    let w = c.get.result in
    let f = corners_fit r w u c.rect-left.ensures.range c.get.ensures.range c.get-unit.ensures.range in
    let f1 : FitsSigned w64 r.left = f.left in
    let f2 : FitsSigned w64 r.top = f.top in
    let f3 : FitsSigned w64 r.right = f.right in
    let f4 : FitsSigned w64 r.bottom = f.bottom in
    let f5 : FitsSigned w64 u = f.size in
    let f6 : FitsSigned w64 w = f.wide in
    let g1 : FitsSigned w64 (pos 2 *ℤ u) = f.double in
    let g3 : FitsSigned w64 (pos 10 *ℤ u) = f.lift in
    let h1 : FitsSigned w64 (r.left +ℤ pos 2 *ℤ u) = f.from_left in
    let h2 : FitsSigned w64 (r.right -ℤ pos 2 *ℤ u) = f.inside in
    let h3 : FitsSigned w64 (r.right -ℤ pos 2 *ℤ u -ℤ w) = f.from_right in
    let h4 : FitsSigned w64 (r.top +ℤ u) = f.from_top in
    let h5 : FitsSigned w64 (r.bottom -ℤ pos 10 *ℤ u) = f.from_bottom in
    let e1 = simp to_z-of_z at c.text_box.ensures in
    let e2 = simp to_z-of_z at c.text_box-2.ensures in
    let e3 = simp to_z-of_z at c.text_box-3.ensures in
    let e4 = simp to_z-of_z at c.text_box-4.ensures in
    rw (e1, e2, e3, e4, c.times-high.ensures, c.rect-left.ensures.rect, c.get-unit.ensures.number, c.get.ensures.number) refl
