use Rattle.std.proofs.Common.{rules, arith, w64, FitsSigned, to_z-of_z}
use Rattle.std.proofs.lemmas.Int.{ints, clamps}
use Rattle.vcm_picture.proofs.span.widened.Goals as goal

pub invariant_of-result : goal.invariant_of-result
invariant_of-result c =
    let i = c.span.inside in
    let s = c.span.invariant in
    let l = s.low in
    let h = s.high in
    let z = c.requires.coordinate in
    let fl : FitsSigned w64 c.min.result = search rules in
    let fg : FitsSigned w64 c.max.result = search rules in
    let fa : FitsSigned w64 i.low = search rules in
    let fb : FitsSigned w64 i.high = search rules in
    let fc : FitsSigned w64 c.args.coordinate = search rules in
    let m = simp to_z-of_z at c.min.ensures.value in
    let n = simp to_z-of_z at c.max.ensures.value in
    simp to_z-of_z (record {
      low = record { from_below = omega (arith, ints, clamps, m, l.from_below, z.from_below); from_above = omega (arith, ints, clamps, m, l.from_above, z.from_above) };
      high = record { from_below = omega (arith, ints, clamps, n, h.from_below, z.from_below); from_above = omega (arith, ints, clamps, n, h.from_above, z.from_above) };
      order = omega (arith, ints, clamps, m, n, s.order);
    })
