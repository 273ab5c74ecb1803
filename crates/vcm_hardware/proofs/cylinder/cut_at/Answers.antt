use Rattle.std.proofs.Common.{◌≡◌, ◌+ℤ◌, rules, arith, FitsSigned, to_z-of_z}
use Rattle.std.proofs.lemmas.Int.{ints}
use mir.Syntax.{w64, w128}
use Rattle.vcm_hardware.proofs.Spans.{cut_is}
use Rattle.vcm_hardware.proofs.cylinder.cut_at.Goals as goal

pub returns : goal.returns
returns c =
    let ff : FitsSigned w128 c.from.result = search rules in
    let fd : FitsSigned w128 c.length_of.result = search rules in
    let fs : FitsSigned w128 c.share.result = search rules in
    let e : c.from.result ≡ c.args.range.low = search rules in
    let f1 : FitsSigned w128 (c.from.result +ℤ c.share.result) = omega (arith, ints, e, c.requires.range.low, c.share.ensures.small) in
    let f2 : FitsSigned w64 (c.from.result +ℤ c.share.result) = omega (arith, ints, e, c.requires.range.low, c.share.ensures.small) in
    let w = simp to_z-of_z at c.share.ensures.value in
    simp to_z-of_z (rw e (cut_is c.args.range c.args.count c.args.index c.length_of.result c.share.result c.length_of.ensures.value w))
