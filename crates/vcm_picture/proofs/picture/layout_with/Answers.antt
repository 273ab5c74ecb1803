use Rattle.std.proofs.Common.{◌+ℤ◌, ◌*ℤ◌, pos, refl, rules, arith, w64, FitsSigned, to_z-of_z}
use Rattle.std.proofs.lemmas.Int.{ints}
use Rattle.vcm_picture.proofs.Layouting.{IsTop, layout_small, top_of}
use Rattle.vcm_picture.proofs.picture.layout_with.Goals as goal

pub overflow_add-front-2 : goal.overflow_add-front-2
overflow_add-front-2 c =
    let t : IsTop (c.args.above *ℤ c.args.unit) = top_of _ _ c.requires.above c.requires.unit in
    let f0 : FitsSigned w64 (c.args.unit) = search rules in
    let f1 : FitsSigned w64 (c.args.above) = search rules in
    let f3 : FitsSigned w64 (c.args.deep) = search rules in
    let f6 : FitsSigned w64 (pos 30 *ℤ c.args.unit) = omega (arith, ints) in
    let f8 : FitsSigned w64 (c.args.above *ℤ c.args.unit) = omega (arith, ints, t.from_below, t.from_above) in
    let f9 : FitsSigned w64 (c.args.above *ℤ c.args.unit +ℤ c.args.deep) = omega (arith, ints, t.from_below, t.from_above) in
    let f10 : FitsSigned w64 (c.args.above *ℤ c.args.unit +ℤ c.args.deep +ℤ pos 30 *ℤ c.args.unit) = omega (arith, ints, t.from_below, t.from_above) in
    simp to_z-of_z f10

pub overflow_add-side-4 : goal.overflow_add-side-4
overflow_add-side-4 c =
    let f0 : FitsSigned w64 (c.args.unit) = search rules in
    let f2 : FitsSigned w64 (c.args.wide) = search rules in
    let f3 : FitsSigned w64 (c.args.deep) = search rules in
    let f5 : FitsSigned w64 (pos 20 *ℤ c.args.unit) = omega (arith, ints) in
    let f6 : FitsSigned w64 (pos 30 *ℤ c.args.unit) = omega (arith, ints) in
    let f11 : FitsSigned w64 (pos 20 *ℤ c.args.unit +ℤ c.args.wide) = omega (arith, ints) in
    let f12 : FitsSigned w64 (pos 20 *ℤ c.args.unit +ℤ c.args.wide +ℤ pos 30 *ℤ c.args.unit) = omega (arith, ints) in
    let f13 : FitsSigned w64 (pos 20 *ℤ c.args.unit +ℤ c.args.wide +ℤ pos 30 *ℤ c.args.unit +ℤ c.args.deep) = omega (arith, ints) in
    let f14 : FitsSigned w64 (pos 20 *ℤ c.args.unit +ℤ c.args.wide +ℤ pos 30 *ℤ c.args.unit +ℤ c.args.deep +ℤ pos 20 *ℤ c.args.unit) = omega (arith, ints) in
    simp to_z-of_z f14

pub overflow_add-front-3 : goal.overflow_add-front-3
overflow_add-front-3 c =
    let t : IsTop (c.args.above *ℤ c.args.unit) = top_of _ _ c.requires.above c.requires.unit in
    let f0 : FitsSigned w64 (c.args.unit) = search rules in
    let f1 : FitsSigned w64 (c.args.above) = search rules in
    let f3 : FitsSigned w64 (c.args.deep) = search rules in
    let f4 : FitsSigned w64 (c.args.high) = search rules in
    let f6 : FitsSigned w64 (pos 30 *ℤ c.args.unit) = omega (arith, ints) in
    let f8 : FitsSigned w64 (c.args.above *ℤ c.args.unit) = omega (arith, ints, t.from_below, t.from_above) in
    let f9 : FitsSigned w64 (c.args.above *ℤ c.args.unit +ℤ c.args.deep) = omega (arith, ints, t.from_below, t.from_above) in
    let f10 : FitsSigned w64 (c.args.above *ℤ c.args.unit +ℤ c.args.deep +ℤ pos 30 *ℤ c.args.unit) = omega (arith, ints, t.from_below, t.from_above) in
    let f15 : FitsSigned w64 (c.args.above *ℤ c.args.unit +ℤ c.args.deep +ℤ pos 30 *ℤ c.args.unit +ℤ c.args.high) = omega (arith, ints, t.from_below, t.from_above) in
    simp to_z-of_z f15

pub overflow_add-front-4 : goal.overflow_add-front-4
overflow_add-front-4 c =
    let t : IsTop (c.args.above *ℤ c.args.unit) = top_of _ _ c.requires.above c.requires.unit in
    let f0 : FitsSigned w64 (c.args.unit) = search rules in
    let f1 : FitsSigned w64 (c.args.above) = search rules in
    let f3 : FitsSigned w64 (c.args.deep) = search rules in
    let f4 : FitsSigned w64 (c.args.high) = search rules in
    let f6 : FitsSigned w64 (pos 30 *ℤ c.args.unit) = omega (arith, ints) in
    let f7 : FitsSigned w64 (pos 50 *ℤ c.args.unit) = omega (arith, ints) in
    let f8 : FitsSigned w64 (c.args.above *ℤ c.args.unit) = omega (arith, ints, t.from_below, t.from_above) in
    let f9 : FitsSigned w64 (c.args.above *ℤ c.args.unit +ℤ c.args.deep) = omega (arith, ints, t.from_below, t.from_above) in
    let f10 : FitsSigned w64 (c.args.above *ℤ c.args.unit +ℤ c.args.deep +ℤ pos 30 *ℤ c.args.unit) = omega (arith, ints, t.from_below, t.from_above) in
    let f15 : FitsSigned w64 (c.args.above *ℤ c.args.unit +ℤ c.args.deep +ℤ pos 30 *ℤ c.args.unit +ℤ c.args.high) = omega (arith, ints, t.from_below, t.from_above) in
    let f16 : FitsSigned w64 (c.args.above *ℤ c.args.unit +ℤ c.args.deep +ℤ pos 30 *ℤ c.args.unit +ℤ c.args.high +ℤ pos 50 *ℤ c.args.unit) = omega (arith, ints, t.from_below, t.from_above) in
    simp to_z-of_z f16

pub laid_out-requires : goal.laid_out-requires
laid_out-requires c =
    let t : IsTop (c.args.above *ℤ c.args.unit) = top_of _ _ c.requires.above c.requires.unit in
    let f0 : FitsSigned w64 (c.args.unit) = search rules in
    let f1 : FitsSigned w64 (c.args.above) = search rules in
    let f2 : FitsSigned w64 (c.args.wide) = search rules in
    let f3 : FitsSigned w64 (c.args.deep) = search rules in
    let f4 : FitsSigned w64 (c.args.high) = search rules in
    let f5 : FitsSigned w64 (pos 20 *ℤ c.args.unit) = omega (arith, ints) in
    let f6 : FitsSigned w64 (pos 30 *ℤ c.args.unit) = omega (arith, ints) in
    let f7 : FitsSigned w64 (pos 50 *ℤ c.args.unit) = omega (arith, ints) in
    let f8 : FitsSigned w64 (c.args.above *ℤ c.args.unit) = omega (arith, ints, t.from_below, t.from_above) in
    let f9 : FitsSigned w64 (c.args.above *ℤ c.args.unit +ℤ c.args.deep) = omega (arith, ints, t.from_below, t.from_above) in
    let f10 : FitsSigned w64 (c.args.above *ℤ c.args.unit +ℤ c.args.deep +ℤ pos 30 *ℤ c.args.unit) = omega (arith, ints, t.from_below, t.from_above) in
    let f11 : FitsSigned w64 (pos 20 *ℤ c.args.unit +ℤ c.args.wide) = omega (arith, ints) in
    let f12 : FitsSigned w64 (pos 20 *ℤ c.args.unit +ℤ c.args.wide +ℤ pos 30 *ℤ c.args.unit) = omega (arith, ints) in
    let f13 : FitsSigned w64 (pos 20 *ℤ c.args.unit +ℤ c.args.wide +ℤ pos 30 *ℤ c.args.unit +ℤ c.args.deep) = omega (arith, ints) in
    let f14 : FitsSigned w64 (pos 20 *ℤ c.args.unit +ℤ c.args.wide +ℤ pos 30 *ℤ c.args.unit +ℤ c.args.deep +ℤ pos 20 *ℤ c.args.unit) = omega (arith, ints) in
    let f15 : FitsSigned w64 (c.args.above *ℤ c.args.unit +ℤ c.args.deep +ℤ pos 30 *ℤ c.args.unit +ℤ c.args.high) = omega (arith, ints, t.from_below, t.from_above) in
    let f16 : FitsSigned w64 (c.args.above *ℤ c.args.unit +ℤ c.args.deep +ℤ pos 30 *ℤ c.args.unit +ℤ c.args.high +ℤ pos 50 *ℤ c.args.unit) = omega (arith, ints, t.from_below, t.from_above) in
    simp to_z-of_z (layout_small _ c.args.unit c.args.above c.args.wide c.args.deep c.args.high refl c.requires.unit c.requires.above c.requires.wide c.requires.deep c.requires.high)

pub returns : goal.returns
returns c =
    let t : IsTop (c.args.above *ℤ c.args.unit) = top_of _ _ c.requires.above c.requires.unit in
    let f0 : FitsSigned w64 (c.args.unit) = search rules in
    let f1 : FitsSigned w64 (c.args.above) = search rules in
    let f2 : FitsSigned w64 (c.args.wide) = search rules in
    let f3 : FitsSigned w64 (c.args.deep) = search rules in
    let f4 : FitsSigned w64 (c.args.high) = search rules in
    let f5 : FitsSigned w64 (pos 20 *ℤ c.args.unit) = omega (arith, ints) in
    let f6 : FitsSigned w64 (pos 30 *ℤ c.args.unit) = omega (arith, ints) in
    let f7 : FitsSigned w64 (pos 50 *ℤ c.args.unit) = omega (arith, ints) in
    let f8 : FitsSigned w64 (c.args.above *ℤ c.args.unit) = omega (arith, ints, t.from_below, t.from_above) in
    let f9 : FitsSigned w64 (c.args.above *ℤ c.args.unit +ℤ c.args.deep) = omega (arith, ints, t.from_below, t.from_above) in
    let f10 : FitsSigned w64 (c.args.above *ℤ c.args.unit +ℤ c.args.deep +ℤ pos 30 *ℤ c.args.unit) = omega (arith, ints, t.from_below, t.from_above) in
    let f11 : FitsSigned w64 (pos 20 *ℤ c.args.unit +ℤ c.args.wide) = omega (arith, ints) in
    let f12 : FitsSigned w64 (pos 20 *ℤ c.args.unit +ℤ c.args.wide +ℤ pos 30 *ℤ c.args.unit) = omega (arith, ints) in
    let f13 : FitsSigned w64 (pos 20 *ℤ c.args.unit +ℤ c.args.wide +ℤ pos 30 *ℤ c.args.unit +ℤ c.args.deep) = omega (arith, ints) in
    let f14 : FitsSigned w64 (pos 20 *ℤ c.args.unit +ℤ c.args.wide +ℤ pos 30 *ℤ c.args.unit +ℤ c.args.deep +ℤ pos 20 *ℤ c.args.unit) = omega (arith, ints) in
    let f15 : FitsSigned w64 (c.args.above *ℤ c.args.unit +ℤ c.args.deep +ℤ pos 30 *ℤ c.args.unit +ℤ c.args.high) = omega (arith, ints, t.from_below, t.from_above) in
    let f16 : FitsSigned w64 (c.args.above *ℤ c.args.unit +ℤ c.args.deep +ℤ pos 30 *ℤ c.args.unit +ℤ c.args.high +ℤ pos 50 *ℤ c.args.unit) = omega (arith, ints, t.from_below, t.from_above) in
    simp to_z-of_z at c.laid_out.ensures
