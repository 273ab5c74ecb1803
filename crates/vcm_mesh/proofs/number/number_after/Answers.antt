use Rattle.std.proofs.Common.{◌+◌, ◌<◌, get_or, arith}
use Rattle.std.proofs.lemmas.Grind.{common_steps}
use Rattle.vcm_mesh.proofs.Rounding.{fits_one_more, one_digit_more}
use Rattle.vcm_mesh.proofs.number.number_after.Goals as goal

pub overflow_mul-number : goal.overflow_mul-number
overflow_mul-number c =
    let below = fits_one_more c.loop-digit.number (c.args.before + c.loop-digit.digit-index) c.loop-digit.invariant.below (omega arith) in
    omega arith

pub overflow_add-number : goal.overflow_add-number
overflow_add-number c =
    let below = fits_one_more c.loop-digit.number (c.args.before + c.loop-digit.digit-index) c.loop-digit.invariant.below (omega arith) in
    omega (arith, c.from.ensures, c.saturating_sub.ensures, c.type_inv.digits c.loop-digit.digit-index)

pub loop-digit-preserved : goal.loop-digit-preserved
loop-digit-preserved c =
    let byte : get_or c.args.digits.now c.loop-digit.digit-index 0 < 256 = omega (arith, c.type_inv.digits c.loop-digit.digit-index) in
    let more = one_digit_more c.loop-digit.number (get_or c.args.digits.now c.loop-digit.digit-index 0) (c.args.before + c.loop-digit.digit-index)
    (c.args.before + (c.loop-digit.digit-index + 1)) (omega arith) c.loop-digit.invariant.below byte in
    record { below = omega (arith, c.from.ensures, c.saturating_sub.ensures); same = grind (arith, common_steps) }
