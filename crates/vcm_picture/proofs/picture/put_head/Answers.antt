use Rattle.std.proofs.Common.{rules, w64, FitsSigned, to_z-of_z}
use Rattle.vcm_picture.proofs.picture.put_head.Goals as goal

pub returns : goal.returns
returns c =
    let i = c.layout.inside in
    let fw : FitsSigned w64 i.wide = search rules in
    let fh : FitsSigned w64 i.high = search rules in
    let fu : FitsSigned w64 c.get-unit.result = search rules in
    let fq : FitsSigned w64 c.quotient.result = search rules in
    let fr : FitsSigned w64 c.quotient-2.result = search rules in
    let q = simp to_z-of_z at c.quotient.ensures.value in
    let r = simp to_z-of_z at c.quotient-2.ensures.value in
    let t = simp to_z-of_z at c.put.ensures in
    rw (← c.layout.view_is) (rw (q, r, c.get-unit.ensures.number) at t)
