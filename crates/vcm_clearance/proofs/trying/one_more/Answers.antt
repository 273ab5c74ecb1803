use Rattle.std.proofs.Common.{◌≡◌, ◌≤◌, ◌+◌, sym, ◌∙◌, arith}
use Rattle.std.proofs.Math.Nat.{min-eq_left, min-eq_right}
use Rattle.vcm_clearance.specs.Rooms.{most}
use Rattle.vcm_clearance.proofs.trying.one_more.Goals as goal

pub returns-then-count-eq18446744073709551615 : goal.returns-then-count-eq18446744073709551615
unfolding most
returns-then-count-eq18446744073709551615 c =
    let e : c.args.count ≡ 18446744073709551615 = grind arith in
    e ∙ sym (min-eq_right {n = 18446744073709551615} {m = c.args.count + 1} (omega (arith, e)))

pub returns-else-count-eq18446744073709551615 : goal.returns-else-count-eq18446744073709551615
unfolding most
returns-else-count-eq18446744073709551615 c =
    let l : c.args.count + 1 ≤ 18446744073709551615 = grind arith in
    sym (min-eq_left {n = c.args.count + 1} {m = 18446744073709551615} l)
