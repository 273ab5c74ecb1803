use Rattle.std.proofs.Common.{rules, w64, FitsSigned, to_z-of_z}
use Rattle.vcm_picture.proofs.Signed.{quotient_size}
use Rattle.vcm_picture.proofs.picture.units.Goals as goal

pub returns-clause-units : goal.returns-clause-units
returns-clause-units c =
    let fx : FitsSigned w64 c.full.result = search rules in
    let fg : FitsSigned w64 c.get.result = search rules in
    let fq : FitsSigned w64 c.quotient.result = search rules in
    let e = simp to_z-of_z at c.quotient.ensures.value in
    rw (to_z-of_z fq) (rw (c.full.ensures.value, c.get.ensures.number, c.grain.ensures.value) at e)

pub returns-clause-size : goal.returns-clause-size
returns-clause-size c =
    let fx : FitsSigned w64 c.full.result = search rules in
    let fq : FitsSigned w64 c.quotient.result = search rules in
    rw (to_z-of_z fq) (quotient_size _ _ c.full.ensures.size (simp to_z-of_z at c.quotient.ensures.from_zero) (simp to_z-of_z at c.quotient.ensures.to_value))
