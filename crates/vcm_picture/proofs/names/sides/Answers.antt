use Rattle.std.proofs.Common.{◌+ℤ◌, ◌-ℤ◌, ◌*ℤ◌, pos, refl, w64, FitsSigned, to_z-of_z}
use Rattle.vcm_picture.proofs.Boxes.{sides_fit}
use Rattle.vcm_picture.proofs.names.sides.Goals as goal

pub returns : goal.returns
returns c =
    let p = c.spot-x.result in
    let u = c.get-size.result in
    let w = c.get.result in
    let f = sides_fit p u w c.spot-x.ensures.range c.get-size.ensures.range c.get.ensures.range in
    let f1 : FitsSigned w64 p.x = f.x in
    let f2 : FitsSigned w64 p.y = f.y in
    let f3 : FitsSigned w64 u = f.unit in
    let f4 : FitsSigned w64 w = f.wide in
    let g1 : FitsSigned w64 (pos 4 *ℤ u) = f.fall in
    let g2 : FitsSigned w64 (pos 8 *ℤ u) = f.gap in
    let g4 : FitsSigned w64 (pos 13 *ℤ u) = f.rise in
    let h1 : FitsSigned w64 (p.x +ℤ pos 8 *ℤ u) = f.right in
    let h2 : FitsSigned w64 (p.x -ℤ pos 8 *ℤ u) = f.inside in
    let h3 : FitsSigned w64 (p.x -ℤ pos 8 *ℤ u -ℤ w) = f.left in
    let h4 : FitsSigned w64 (p.y -ℤ pos 13 *ℤ u) = f.upper in
    let h5 : FitsSigned w64 (p.y +ℤ pos 4 *ℤ u) = f.lower in
    let e1 = simp to_z-of_z at c.text_box.ensures in
    let e2 = simp to_z-of_z at c.text_box-2.ensures in
    let e3 = simp to_z-of_z at c.text_box-3.ensures in
    let e4 = simp to_z-of_z at c.text_box-4.ensures in
    rw (e1, e2, e3, e4, c.times-high.ensures, c.spot-x.ensures.spot, c.get-size.ensures.number, c.get.ensures.number) refl
