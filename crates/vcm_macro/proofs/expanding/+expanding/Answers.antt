use Rattle.std.proofs.Common.{inr, refl}
use Rattle.std.specs.Prelude.{map, reverse}
use Rattle.vcm_macro.specs.Walk.{call_in}
use Rattle.vcm_substitution.specs.Substitution.{put_argument}
use Rattle.std.proofs.lemmas.Result.{err_from_is_err_and}
use Rattle.vcm_macro.proofs.Calling.{call_too_long, call_unknown, call_refused, call_fine, call_carried, call_told, on_ok}
use Rattle.vcm_macro.proofs.Bodies.{called_more, called_told, stood_more, stood_told}
use Rattle.vcm_macro.proofs.expanding.+expanding.Goals as goal
use Rattle.vcm_macro.proofs.expanding.+expanding.Goals.{body-in-Call+in_ok-call-in-Call, body-in_default+in_ok-stand-in_default}

pub call-returns-in_err-count_call-clause-fault : goal.call-returns-in_err-count_call-clause-fault
call-returns-in_err-count_call-clause-fault t c =
    let p = err_from_is_err_and c.from_residual.result c.from_residual.ensures.1 in
    let f = c.in_err-count_call.ensures.fault in
    rw (p.1, p.2) (rw f.0 (inr (call_too_long _ c.args.line c.args.depth c.args.done.now.calls c.args.done.now.count c.args.name.now _ f.1)))

pub call-returns-in_default-clause-fault : goal.call-returns-in_default-clause-fault
call-returns-in_default-clause-fault t c =
    rw c.refused.ensures (inr (call_unknown _ c.args.line c.args.depth c.args.done.now.calls c.args.done.now.count c.args.name.now _ c.in_ok-count_call.ensures.room c.in_default.ensures))

pub call-returns-in_err-arguments-clause-fault : goal.call-returns-in_err-arguments-clause-fault
call-returns-in_err-arguments-clause-fault t c =
    let p = err_from_is_err_and c.from_residual-in_err-arguments.result c.from_residual-in_err-arguments.ensures.1 in
    rw (p.1, p.2) (call_refused c.args.macros.now c.args.name.now c.in-Some.place c.index-macros-place.result c.args.line c.args.depth c.args.done.now.calls
    c.args.done.now.count _ _ c.in-Some.ensures c.index-macros-place.is
    c.in_ok-count_call.ensures.room c.in_err-arguments.ensures.fault)

pub call-returns-clause-ok : goal.call-returns-clause-ok
call-returns-clause-ok t c =
    on_ok c.body.result (λ w. call_carried c.args.macros.now c.args.name.now c.in-Some.place c.index-macros-place.result c.args.line c.args.depth
    (map (put_argument c.args.bindings.now) c.args.written.now) c.args.done.now c.count_call.new.self c.body.new.done c.new-inner.result _
    c.in-Some.ensures c.index-macros-place.is
    (call_fine c.args.done.now.count c.args.line c.args.depth c.index-macros-place.result _ c.in_ok-count_call.ensures.room c.in_ok-arguments.ensures.fine) c.in_ok-count_call.ensures.ok
    (rw (c.new-inner.ensures, c.parameters.ensures, c.as_slice.ensures, c.in_ok-arguments.ensures.ok, c.calls.ensures) refl)
    c.statements.ensures w) c.body.ensures.ok

pub call-returns-clause-fault : goal.call-returns-clause-fault
call-returns-clause-fault t c =
    call_told c.body.result c.args.macros.now c.args.name.now c.in-Some.place c.index-macros-place.result c.args.line c.args.depth
    (map (put_argument c.args.bindings.now) c.args.written.now) c.args.done.now c.count_call.new.self c.new-inner.result _
    c.in-Some.ensures c.index-macros-place.is
    (call_fine c.args.done.now.count c.args.line c.args.depth c.index-macros-place.result _ c.in_ok-count_call.ensures.room c.in_ok-arguments.ensures.fine) c.in_ok-count_call.ensures.ok
    (rw (c.new-inner.ensures, c.parameters.ensures, c.as_slice.ensures, c.in_ok-arguments.ensures.ok, c.calls.ensures) refl)
    c.statements.ensures c.body.ensures.fault

pub body-returns-in_err-call-in-Call-clause-fault : goal.body-returns-in_err-call-in-Call-clause-fault
body-returns-in_err-call-in-Call-clause-fault t c =
    let p = err_from_is_err_and c.from_residual.result c.from_residual.ensures.1 in
    rw (p.1, p.2) (called_told (call_in (reverse c.args.macros.now)) c.args.bindings.now c.args.depth c.args.statements.now c.loop-statement.statement-index
    c.args.done.now c.loop-statement.done c.statement-item.result _ _ _ _ c.loop-statement.invariant c.loop-statement-test.true
    c.statement-item.is
    c.in-Call.is c.as_slice-written.ensures c.in_err-call-in-Call.ensures.fault)

pub body-returns-in_err-stand-in_default : goal.body-returns-in_err-stand-in_default
body-returns-in_err-stand-in_default t c =
    let p = err_from_is_err_and c.from_residual-in_err-stand-in_default.result c.from_residual-in_err-stand-in_default.ensures.1 in
    rw (p.1, p.2) (record {
      ok = tt;
      fault = stood_told (call_in (reverse c.args.macros.now)) c.args.bindings.now c.args.depth c.args.statements.now c.loop-statement.statement-index
          c.args.done.now c.loop-statement.done c.statement-item.result _ c.loop-statement.invariant c.loop-statement-test.true
          c.statement-item.is
          c.in_default.not-Call c.in_err-stand-in_default.ensures.fault;
    })

pub body-loop-statement-preserved : goal.body-loop-statement-preserved
body-loop-statement-preserved t c = elim c.match-statement.branch [
  | body-in-Call+in_ok-call-in-Call w ↦ rw w.done-is
      (called_more (call_in (reverse c.args.macros.now)) c.args.bindings.now c.args.depth c.args.statements.now c.loop-statement.statement-index c.args.done.now
      c.loop-statement.done w.call.new.done c.statement-item.result _ _ _ c.loop-statement.invariant c.loop-statement-test.true
      c.statement-item.is
      w.in-Call.is w.as_slice-written.ensures w.in_ok-call-in-Call.ensures.ok)
  | body-in_default+in_ok-stand-in_default w
      ↦ rw w.done-is (stood_more (call_in (reverse c.args.macros.now)) c.args.bindings.now c.args.depth c.args.statements.now c.loop-statement.statement-index
      c.args.done.now c.loop-statement.done w.stand.new.self c.statement-item.result c.loop-statement.invariant c.loop-statement-test.true
      c.statement-item.is
      w.in_default.not-Call w.in_ok-stand-in_default.ensures.ok)
]
