use Rattle.std.proofs.Common.{◌+ℤ◌, get_or, pos, rules}
use Rattle.std.proofs.lemmas.Int.{to_z-of_z}
use mir.Syntax.{w128, w64}
use mir.Val.{SFits}
use Rattle.vcm_boxing.proofs.Sums.{summed, three_fit}
use Rattle.vcm_boxing.proofs.parting.reach.Goals as goal

pub returns : goal.returns
returns c =
    let e = summed c.farther.result c.farther-2.result c.farther-3.result c.farther.ensures.small c.farther-2.ensures.small c.farther-3.ensures.small in
    let f = three_fit c.farther.result c.farther-2.result c.farther-3.result c.farther.ensures.small c.farther-2.ensures.small c.farther-3.ensures.small in
    let n = c.args.n.now in
    let n0 : SFits w64 (get_or n 0 (pos 0)) = search rules in
    let n1 : SFits w64 (get_or n 1 (pos 0)) = search rules in
    let n2 : SFits w64 (get_or n 2 (pos 0)) = search rules in
    let p0 = simp to_z-of_z at c.farther.ensures.value in
    let p1 = simp to_z-of_z at c.farther-2.ensures.value in
    let p2 = simp to_z-of_z at c.farther-3.ensures.value in
    rw (e, to_z-of_z w128 (c.farther.result +ℤ c.farther-2.result +ℤ c.farther-3.result) f, p0, p1, p2)
