use Rattle.std.proofs.Common.{◌-ℤ◌, ◌*ℤ◌, pos, rules, arith, w64, FitsSigned, to_z-of_z}
use Rattle.std.proofs.lemmas.Int.{ints}
use Rattle.vcm_picture.proofs.picture.bar_place.Goals as goal

pub returns : goal.returns
returns c =
    let i = c.layout.inside in
    let u = c.get.ensures.range in
    let l = c.layout.invariant.high in
    let fx : FitsSigned w64 i.left = search rules in
    let fy : FitsSigned w64 i.high = search rules in
    let fu : FitsSigned w64 c.get.result = search rules in
    let fd : FitsSigned w64 (pos 28 *ℤ c.get.result) = omega (arith, ints, u.from_below, u.from_above) in
    let fs : FitsSigned w64 (i.high -ℤ pos 28 *ℤ c.get.result) = omega (arith, ints, l.from_below, l.from_above, u.from_below, u.from_above) in
    let e = simp to_z-of_z at c.corner.ensures in
    rw (← c.layout.view_is) (rw c.get.ensures.number at e)
