use Rattle.std.proofs.Common.{rules, FitsSigned, to_z-of_z}
use mir.Syntax.{w32}
use Rattle.vcm_hardware.proofs.Units.{turning_is}
use Rattle.vcm_hardware.proofs.angle.turning_by.Goals as goal

pub returns : goal.returns
returns c =
    let fa : FitsSigned w32 c.args.a = search rules in
    let fb : FitsSigned w32 c.args.b = search rules in
    let ca = simp to_z-of_z at c.cosine-cos_a.ensures.value in
    let sa = simp to_z-of_z at c.sine-sin_a.ensures.value in
    let cb = simp to_z-of_z at c.cosine-cos_b.ensures.value in
    let sb = simp to_z-of_z at c.sine-sin_b.ensures.value in
    turning_is c.args.a c.args.b c.cosine-cos_a.result c.sine-sin_a.result c.cosine-cos_b.result c.sine-sin_b.result c.product.result c.product-2.result
    c.product-3.result c.negative-2.result c.negative.result c.negative-3.result c.product-4.result ca sa cb sb c.product.ensures.value c.negative.ensures.value
    c.product-2.ensures.value c.negative-2.ensures.value c.product-3.ensures.value c.negative-3.ensures.value c.product-4.ensures.value
