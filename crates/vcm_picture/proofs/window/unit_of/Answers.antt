use Rattle.std.proofs.Common.{◌≤ℤ◌, pos, refl, rules, arith, w64, FitsSigned, to_z-of_z}
use Rattle.std.proofs.lemmas.Int.{ints, clamps}
use Rattle.vcm_picture.proofs.Signed.{quotient_size}
use Rattle.vcm_picture.proofs.Extents.{thousandth}
use Rattle.vcm_picture.proofs.window.unit_of.Goals as goal

pub longest-longest-requires-clause-x : goal.longest-longest-requires-clause-x
longest-longest-requires-clause-x c =
    let fr : FitsSigned w64 c.quotient.result = search rules in
    let fx : FitsSigned w64 c.args.x = search rules in
    rw (to_z-of_z fr) (quotient_size _ _ c.requires.x (simp to_z-of_z at c.quotient.ensures.from_zero) (simp to_z-of_z at c.quotient.ensures.to_value))

pub longest-longest-requires-clause-y : goal.longest-longest-requires-clause-y
longest-longest-requires-clause-y c =
    let fr : FitsSigned w64 c.quotient-2.result = search rules in
    let fx : FitsSigned w64 c.args.y = search rules in
    rw (to_z-of_z fr) (quotient_size _ _ c.requires.y (simp to_z-of_z at c.quotient-2.ensures.from_zero) (simp to_z-of_z at c.quotient-2.ensures.to_value))

pub longest-longest-requires-clause-z : goal.longest-longest-requires-clause-z
longest-longest-requires-clause-z c =
    let fr : FitsSigned w64 c.quotient-3.result = search rules in
    let fx : FitsSigned w64 c.args.z = search rules in
    rw (to_z-of_z fr) (quotient_size _ _ c.requires.z (simp to_z-of_z at c.quotient-3.ensures.from_zero) (simp to_z-of_z at c.quotient-3.ensures.to_value))

pub new-requires : goal.new-requires
new-requires c =
    let fr : FitsSigned w64 c.max.result = search rules in
    let fq : FitsSigned w64 c.quotient-4.result = search rules in
    let fl : FitsSigned w64 c.longest-longest.result = search rules in
    let d = simp to_z-of_z at c.quotient-4.ensures.value in
    let t : c.quotient-4.result ≤ℤ pos 17179870 = thousandth _ _ c.longest-longest.ensures.from_zero c.longest-longest.ensures.to_most d in
    let m = simp to_z-of_z at c.max.ensures.value in
    rw (to_z-of_z fr) (record {
      from_below = omega (arith, ints, clamps, m);
      from_above = omega (arith, ints, clamps, m);
    })

pub returns-clause-value : goal.returns-clause-value
returns-clause-value c =
    let f0 : FitsSigned w64 c.get-grain.result = search rules in
    let f1 : FitsSigned w64 c.quotient.result = search rules in
    let f2 : FitsSigned w64 c.quotient-2.result = search rules in
    let f3 : FitsSigned w64 c.quotient-3.result = search rules in
    let f4 : FitsSigned w64 c.quotient-4.result = search rules in
    let f5 : FitsSigned w64 c.longest-longest.result = search rules in
    let f6 : FitsSigned w64 c.max.result = search rules in
    let f7 : FitsSigned w64 c.args.x = search rules in
    let f8 : FitsSigned w64 c.args.y = search rules in
    let f9 : FitsSigned w64 c.args.z = search rules in
    let n = simp to_z-of_z at c.new.ensures in
    let m = simp to_z-of_z at c.max.ensures.value in
    let q = simp to_z-of_z at c.quotient-4.ensures.value in
    let l = simp to_z-of_z at c.longest-longest.ensures.value in
    let x = simp to_z-of_z at c.quotient.ensures.value in
    let y = simp to_z-of_z at c.quotient-2.ensures.value in
    let z = simp to_z-of_z at c.quotient-3.ensures.value in
    rw (n, m, q, l, x, y, z, c.get-grain.ensures.number) refl

pub returns-clause-slim : goal.returns-clause-slim
returns-clause-slim c =
    let fr : FitsSigned w64 c.max.result = search rules in
    let fq : FitsSigned w64 c.quotient-4.result = search rules in
    let fl : FitsSigned w64 c.longest-longest.result = search rules in
    let d = simp to_z-of_z at c.quotient-4.ensures.value in
    let t : c.quotient-4.result ≤ℤ pos 17179870 = thousandth _ _ c.longest-longest.ensures.from_zero c.longest-longest.ensures.to_most d in
    let m = simp to_z-of_z at c.max.ensures.value in
    let n = simp to_z-of_z at c.new.ensures in
    rw n (omega (arith, ints, clamps, m))
