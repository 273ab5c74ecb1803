use Rattle.std.proofs.Common.{ap, sym, ◌∙◌}
use Rattle.std.proofs.lemmas.Result.{err_from_is_err_and}
use Rattle.vcm_expr.specs.Source.{is_small}
use Rattle.vcm_expr.specs.inner.Pieces.{top_of}
use Rattle.vcm_expr.proofs.Heights.{room_for}
use Rattle.vcm_substitution.proofs.Puttings.{put_alone, put_told, put_ends, put_some}
use Rattle.vcm_substitution.proofs.bindings.Bindings.put.Goals as goal

pub returns-in_err-put_piece-clause-fault : goal.returns-in_err-put_piece-clause-fault
returns-in_err-put_piece-clause-fault c =
    let p = err_from_is_err_and c.from_residual-in_err-put_piece.result c.from_residual-in_err-put_piece.ensures.1 in
    let i = c.loop-piece.invariant in
    rw (p.1, p.2) (put_told c.args.self.now c.pieces-piece-items.result.now _ _ i.0 _ _ c.args.e.now c.args.line _ c.loop-piece-test.true c.piece-item.is
    c.pieces-piece-items.ensures.parts i.1 i.2 c.in_err-put_piece.ensures.fault)

pub finish-requires : goal.finish-requires
finish-requires c =
    let i = c.loop-piece.invariant in
    let w = put_ends c.args.self.now c.pieces-piece-items.result.now _ i.0 _ c.in-Some-pop.size _ _ c.args.e.now c.loop-piece-test.false i.1 i.2
    c.in-Some-pop.ensures.top c.pieces-piece-items.ensures.parts in
    (_, w.0, w.1)

pub unreachable-requires : goal.unreachable-requires
unreachable-requires c =
    let i = c.loop-piece.invariant in
    put_some c.args.self.now c.pieces-piece-items.result.now _ i.0 _ _ c.args.e.now c.loop-piece-test.false i.1 i.2 c.in-None.ensures.top.0 c.pieces-piece-items.ensures.parts

pub returns-clause-ok : goal.returns-clause-ok
returns-clause-ok c =
    let i = c.loop-piece.invariant in
    let w = put_ends c.args.self.now c.pieces-piece-items.result.now _ i.0 _ c.in-Some-pop.size _ _ c.args.e.now c.loop-piece-test.false i.1 i.2
    c.in-Some-pop.ensures.top c.pieces-piece-items.ensures.parts in
    ap (λ es. top_of es) (sym c.finish.ensures ∙ w.0)

pub returns-clause-small : goal.returns-clause-small
returns-clause-small c =
    let i = c.loop-piece.invariant in
    (put_ends c.args.self.now c.pieces-piece-items.result.now _ i.0 _ c.in-Some-pop.size _ _ c.args.e.now c.loop-piece-test.false i.1 i.2
    c.in-Some-pop.ensures.top c.pieces-piece-items.ensures.parts).1.small

pub returns-in-Some-clause-ok : goal.returns-in-Some-clause-ok
returns-in-Some-clause-ok c = c.in_ok-leaf.ensures.ok ∙ put_alone c.args.self.now c.in-Some.term c.args.e.now c.in-Some.ensures

pub returns-in-Some-clause-small : goal.returns-in-Some-clause-small
returns-in-Some-clause-small c = ap is_small (sym (put_alone c.args.self.now c.in-Some.term c.args.e.now c.in-Some.ensures)) ∙ c.in_ok-leaf.ensures.small

pub put_piece-requires : goal.put_piece-requires
put_piece-requires c =
    let i = c.loop-piece.invariant in
    (i.0, i.2, room_for c.args.e.now c.pieces-piece-items.result.now _ _ i.0 c.loop-piece-test.true c.piece-item.is i.1 c.pieces-piece-items.ensures.parts c.pieces-piece-items.ensures.small)
