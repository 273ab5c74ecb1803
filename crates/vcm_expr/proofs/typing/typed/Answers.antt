use Rattle.std.proofs.lemmas.Result.{err_from_is_err_and}
use Rattle.vcm_expr.proofs.Heights.{room_for}
use Rattle.vcm_expr.proofs.TypingSteps.{typed_told, typed_last, typed_some}
use Rattle.vcm_expr.proofs.typing.typed.Goals as goal

pub returns-in_err-step-clause-fault : goal.returns-in_err-step-clause-fault
returns-in_err-step-clause-fault c =
    let p = err_from_is_err_and c.from_residual.result c.from_residual.ensures.1 in
    let i = c.loop-piece.invariant in
    rw (p.1, p.2) (typed_told c.args.names.now c.args.pieces.now _ _ i.0 _ _ _ c.args.line _ c.loop-piece-test.true c.piece-item.is i.1 i.2 c.in_err-step.ensures.fault)

pub unreachable-requires : goal.unreachable-requires
unreachable-requires c =
    let i = c.loop-piece.invariant in
    typed_some c.args.names.now c.args.pieces.now _ i.0 _ _ _ c.loop-piece-test.false i.1 i.2 c.in-None.ensures.top.0 c.requires.0 c.requires.1

pub returns-clause-ok : goal.returns-clause-ok
returns-clause-ok c e is =
    let i = c.loop-piece.invariant in
    typed_last c.args.names.now c.args.pieces.now _ i.0 c.in-Some.last _ _ _ _ c.loop-piece-test.false i.1 i.2 c.in-Some.ensures.top e is

pub step-requires : goal.step-requires
step-requires c =
    let i = c.loop-piece.invariant in
    (i.0, _, i.2, room_for c.requires.0 c.args.pieces.now _ _ i.0 c.loop-piece-test.true c.piece-item.is i.1 c.requires.1 c.requires.2)
