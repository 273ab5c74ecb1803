use Rattle.std.proofs.Common.{◌+◌, length, arith}
use Rattle.vcm_mesh.proofs.Rounding.{digits_fit}
use Rattle.vcm_mesh.proofs.number.shifted.Goals as goal

pub overflow_mul-number : goal.overflow_mul-number
overflow_mul-number c =
    let fits = digits_fit c.number_after.result c.args.scale (length c.args.whole.now + length c.args.decimals.now) c.number_after.ensures.small c.requires.few c.requires.scale in
    rw c.from.ensures (omega arith)

pub shrunk-requires : goal.shrunk-requires
shrunk-requires c =
    rw c.from.ensures (digits_fit c.number_after.result c.args.scale (length c.args.whole.now + length c.args.decimals.now) c.number_after.ensures.small c.requires.few c.requires.scale)
