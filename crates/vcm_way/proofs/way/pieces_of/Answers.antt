use Rattle.std.proofs.Common.{◌<◌, ◌^◌, length, sym, ap, ◌∙◌, arith, rules}
use Rattle.vcm_marks.specs.Pieces.{is_piece, pieces}
use Rattle.vcm_way.proofs.Lists.{pieces_le, one_more}
use Rattle.vcm_way.proofs.way.pieces_of.Goals as goal

pub overflow_add-count : goal.overflow_add-count
overflow_add-count c =
    let l : length c.args.marks.now < 2 ^ 63 = search rules in
    let p = pieces_le c.args.marks.now in
    let i = c.loop-first.invariant in
    let e = ap pieces c.in-Some.ensures.cases.0 in
    let k = one_more (is_piece c.in-Some.first.now.mark) (pieces c.in-Some.after.now) (sym c.is_piece.ensures ∙ c.if-is_piece.true) in
    omega (arith, l, p, i, e, k)
