use Rattle.std.proofs.Common.{pos, arith, get_or, rules}
use Rattle.std.proofs.lemmas.Int.{ints}
use mir.Syntax.{w64}
use mir.Val.{SFits}
use Rattle.vcm_boxing.proofs.Inside.{in_block}
use Rattle.vcm_boxing.proofs.range.holds_range.Goals as goal

pub returns : goal.returns
returns c = λ e.
    let b = c.args.block.now in
    let r = c.args.range.now in
    let h0 = c.holds_stretch.ensures c.if-not-holds_stretch.false in
    let h1 = c.holds_stretch-2.ensures c.if-not-holds_stretch-2.false in
    let h2 = c.holds_stretch-3.ensures e in
    let l0 : SFits w64 (get_or b.low.0 0 (pos 0)) = search rules in
    let l1 : SFits w64 (get_or b.low.0 1 (pos 0)) = search rules in
    let l2 : SFits w64 (get_or b.low.0 2 (pos 0)) = search rules in
    let m0 : SFits w64 (get_or b.high.0 0 (pos 0)) = search rules in
    let m1 : SFits w64 (get_or b.high.0 1 (pos 0)) = search rules in
    let m2 : SFits w64 (get_or b.high.0 2 (pos 0)) = search rules in
    in_block b r
    (record { below = omega (arith, ints, h0.0); above = omega (arith, ints, h0.1) })
    (record { below = omega (arith, ints, h1.0); above = omega (arith, ints, h1.1) })
    (record { below = omega (arith, ints, h2.0); above = omega (arith, ints, h2.1) })
