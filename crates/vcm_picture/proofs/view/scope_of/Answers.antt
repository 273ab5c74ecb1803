use Rattle.std.proofs.Common.{rules, w64, FitsSigned, to_z-of_z, ◌+ℤ◌, arith}
use Rattle.std.proofs.lemmas.Int.{ints}
use Rattle.vcm_picture.proofs.Scopes.{scope_same}
use Rattle.vcm_picture.proofs.view.scope_of.Goals as goal

pub returns : goal.returns
returns c =
    let l = c.low-2.ensures.edge in
    let f = c.full.ensures.size in
    let f1 : FitsSigned w64 c.low.result = search rules in
    let f2 : FitsSigned w64 c.low-2.result = search rules in
    let f3 : FitsSigned w64 c.full.result = search rules in
    let f4 : FitsSigned w64 (c.low-2.result +ℤ c.full.result) = omega (arith, ints, l.from_below, l.from_above, f.from_below, f.from_above) in
    simp to_z-of_z (rw (c.low.ensures.value, c.low-2.ensures.value, c.full.ensures.value, c.grain.ensures.value, c.unit.ensures.value)
    (scope_same c.args.window c.args.view _ _ _ _ c.right_axis-right.ensures.axis c.up_axis-up.ensures.axis c.width_of.ensures c.width_of-2.ensures))
