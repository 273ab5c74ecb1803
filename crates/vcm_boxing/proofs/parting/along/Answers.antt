use Rattle.std.proofs.Common.{sym, subst, FitsSigned, ◌+ℤ◌, get_or, pos, rules}
use Rattle.std.proofs.lemmas.Int.{to_z-of_z}
use mir.Syntax.{w128, w64, w32}
use mir.Val.{SFits}
use Rattle.vcm_boxing.proofs.Sums.{summed, three_fit}
use Rattle.vcm_boxing.proofs.parting.along.Goals as goal

pub overflow_add-result-2 : goal.overflow_add-result-2
overflow_add-result-2 c =
    subst (FitsSigned w128) (sym (summed c.product.result c.product-2.result c.product-3.result c.product.ensures.small c.product-2.ensures.small c.product-3.ensures.small))
    (three_fit c.product.result c.product-2.result c.product-3.result c.product.ensures.small c.product-2.ensures.small c.product-3.ensures.small)

pub returns : goal.returns
returns c =
    let e = summed c.product.result c.product-2.result c.product-3.result c.product.ensures.small c.product-2.ensures.small c.product-3.ensures.small in
    let f = three_fit c.product.result c.product-2.result c.product-3.result c.product.ensures.small c.product-2.ensures.small c.product-3.ensures.small in
    let n = c.args.n.now in
    let x = c.args.x.now in
    let n0 : SFits w64 (get_or n 0 (pos 0)) = search rules in
    let n1 : SFits w64 (get_or n 1 (pos 0)) = search rules in
    let n2 : SFits w64 (get_or n 2 (pos 0)) = search rules in
    let x0 : SFits w32 (get_or x 0 (pos 0)) = search rules in
    let x1 : SFits w32 (get_or x 1 (pos 0)) = search rules in
    let x2 : SFits w32 (get_or x 2 (pos 0)) = search rules in
    let p0 = simp to_z-of_z at c.product.ensures.value in
    let p1 = simp to_z-of_z at c.product-2.ensures.value in
    let p2 = simp to_z-of_z at c.product-3.ensures.value in
    rw (e, to_z-of_z w128 (c.product.result +ℤ c.product-2.result +ℤ c.product-3.result) f, p0, p1, p2)
