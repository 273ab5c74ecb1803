use Rattle.std.proofs.Common.{◌≤ℤ◌, pos, rules, arith, w64, FitsSigned, to_z-of_z}
use Rattle.std.proofs.lemmas.Int.{ints, clamps}
use Rattle.vcm_picture.proofs.Extents.{most_same}
use Rattle.vcm_picture.proofs.window.most_of.Goals as goal

pub returns-clause-value : goal.returns-clause-value
returns-clause-value c =
    let fa : FitsSigned w64 c.size.result = search rules in
    let fb : FitsSigned w64 c.size-2.result = search rules in
    let fc : FitsSigned w64 c.size-3.result = search rules in
    let fm : FitsSigned w64 c.max.result = search rules in
    let fn : FitsSigned w64 c.max-2.result = search rules in
    let fr : FitsSigned w64 c.max-3.result = search rules in
    let e = simp to_z-of_z at c.max-3.ensures.value in
    let f = simp to_z-of_z at c.max.ensures.value in
    let g = simp to_z-of_z at c.max-2.ensures.value in
    rw (to_z-of_z fr) (most_same c.args.x c.args.y c.args.z _ _ _ _ _ _ e f g c.size.ensures.value c.size-2.ensures.value c.size-3.ensures.value)

pub returns-clause-most : goal.returns-clause-most
returns-clause-most c =
    let fa : FitsSigned w64 c.size.result = search rules in
    let fb : FitsSigned w64 c.size-2.result = search rules in
    let fc : FitsSigned w64 c.size-3.result = search rules in
    let fm : FitsSigned w64 c.max.result = search rules in
    let fn : FitsSigned w64 c.max-2.result = search rules in
    let fr : FitsSigned w64 c.max-3.result = search rules in
    let e = simp to_z-of_z at c.max-3.ensures.value in
    let f = simp to_z-of_z at c.max.ensures.value in
    let g = simp to_z-of_z at c.max-2.ensures.value in
    let m : c.max.result ≤ℤ pos 2000000000 = omega (arith, ints, clamps, f) in
    let n : c.max-2.result ≤ℤ pos 2000000000 = omega (arith, ints, clamps, g) in
    let l : pos 1000 ≤ℤ c.max-2.result = omega (arith, ints, clamps, g) in
    rw (to_z-of_z fr) (record {
      from_below = omega (arith, ints, clamps, e, l);
      from_above = omega (arith, ints, clamps, e, m, n);
    })
