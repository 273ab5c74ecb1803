use Rattle.std.proofs.Common.{inr, refl}
use Rattle.std.proofs.lemmas.Result.{err_from_is_err_and}
use Rattle.vcm_expr.specs.declared.expression.Term.TheVariants.{Number, Truth, Variable}
use Rattle.vcm_expr.proofs.TypingSteps.{leaf_fails, front_told, between_told, start_within, leaf_room}
use Rattle.vcm_expr.proofs.typing.step.Goals as goal

pub returns-in_ok-push_operand-in-Number-clause-ok : goal.returns-in_ok-push_operand-in-Number-clause-ok
returns-in_ok-push_operand-in-Number-clause-ok c = λ es before.
    rw c.in-Number.is (c.in_ok-push_operand-in-Number.ensures.ok c.args.names.now (Number c.in-Number.literal) es before (c.number-x.ensures c.args.names.now))

pub returns-in_ok-push_operand-in-Truth-clause-ok : goal.returns-in_ok-push_operand-in-Truth-clause-ok
returns-in_ok-push_operand-in-Truth-clause-ok c = λ es before.
    rw c.in-Truth.is (c.in_ok-push_operand-in-Truth.ensures.ok c.args.names.now (Truth c.in-Truth.truth) es before refl)

pub returns-in_err-x-in-Variable-clause-fault : goal.returns-in_err-x-in-Variable-clause-fault
returns-in_err-x-in-Variable-clause-fault c =
    let p = err_from_is_err_and c.from_residual-in_err-x-in-Variable.result c.from_residual-in_err-x-in-Variable.ensures.1 in
    let f = c.in_err-x-in-Variable.ensures.fault in
    rw (p.1, p.2, c.in-Variable.is) (inr (
      f.0,
      λ es before t. leaf_fails c.args.names.now (Variable c.in-Variable.name c.in-Variable.expansion) es
          c.args.open.now before c.args.items.now.items _ f.1 t,
    ))

pub returns-in_err-kind-in-Front-clause-fault : goal.returns-in_err-kind-in-Front-clause-fault
returns-in_err-kind-in-Front-clause-fault c =
    let p = err_from_is_err_and c.from_residual-in_err-kind-in-Front.result c.from_residual-in_err-kind-in-Front.ensures.1 in
    rw (p.1, p.2, c.in-Front.is) (front_told c.args.names.now c.in-Front.prefix c.top-a.result c.args.open.now _ c.args.items.now.items c.args.line _
    c.top-a.ensures c.in_err-kind-in-Front.ensures.fault)

pub pair-requires : goal.pair-requires
pair-requires c = start_within c.args.names.now c.requires.0 c.take-b.result c.args.open.now _ c.requires.1 c.args.items.now.items c.take-b.ensures.value c.requires.2

pub returns-in_err-kind-in-Between-clause-fault : goal.returns-in_err-kind-in-Between-clause-fault
returns-in_err-kind-in-Between-clause-fault c =
    let p = err_from_is_err_and c.from_residual-in_err-kind-in-Between.result c.from_residual-in_err-kind-in-Between.ensures.1 in
    rw (p.1, p.2, c.in-Between.is) (between_told c.args.names.now c.in-Between.op c.top-a-in-Between.result c.take-b.result c.args.open.now _ _
    c.args.items.now.items c.args.line _ c.take-b.ensures.value c.top-a-in-Between.ensures c.in_err-kind-in-Between.ensures.fault)

pub push_operand-requires : goal.push_operand-requires
push_operand-requires c = leaf_room c.args.names.now (Number c.in-Number.literal) c.requires.0 _ c.requires.1 _ c.requires.2 (rw c.in-Number.is at c.requires.3)

pub push_operand-requires-in-Truth : goal.push_operand-requires-in-Truth
push_operand-requires-in-Truth c = leaf_room c.args.names.now (Truth c.in-Truth.truth) c.requires.0 _ c.requires.1 _ c.requires.2 (rw c.in-Truth.is at c.requires.3)

pub push_operand-requires-in-Variable : goal.push_operand-requires-in-Variable
push_operand-requires-in-Variable c = leaf_room c.args.names.now (Variable c.in-Variable.name c.in-Variable.expansion) c.requires.0 _ c.requires.1 _ c.requires.2 (rw c.in-Variable.is at c.requires.3)
