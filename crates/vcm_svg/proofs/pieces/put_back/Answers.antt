use Rattle.std.proofs.Common.{◌≡◌, negsuc, rules}
use Rattle.vcm_svg.proofs.pieces.put_back.Goals as goal

pub returns-then-number-eqminus9223372036854775808 : goal.returns-then-number-eqminus9223372036854775808
returns-then-number-eqminus9223372036854775808 c =
    let e : c.args.number ≡ negsuc 9223372036854775807 = search rules in
    rw e c.put_count.ensures
