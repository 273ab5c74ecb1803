use Rattle.std.proofs.Common.{◌≡◌, ◌-◌, suc, arith}
use Rattle.std.proofs.lemmas.Result.{err_from_is_err_and}
use Rattle.vcm_print.proofs.Steps.{took_more, took_front}
use Rattle.vcm_backtrace.proofs.Chains.{chain_turn}
use Rattle.vcm_backtrace.proofs.calls.write_chain.Goals as goal

pub returns-in_err-write_if_called : goal.returns-in_err-write_if_called
returns-in_err-write_if_called g c =
    let p = err_from_is_err_and c.from_residual.result c.from_residual.ensures.1 in
    let l = c.loop-left in
    let i = l.left in
    let one : i ≡ suc (i - 1) = omega (arith, c.loop-left-test.true) in
    rw p.1 (took_front _ _ _ _ _ _ _ (chain_turn c.args.text.now c.args.statements.now c.args.calls.now i (i - 1) l.depth one) l.invariant.took
    (rw c.line_if-line.ensures at c.in_err-write_if_called.ensures))

pub loop-left-preserved : goal.loop-left-preserved
loop-left-preserved g c =
    let l = c.loop-left in
    let i = l.left in
    let one : i ≡ suc (i - 1) = omega (arith, c.loop-left-test.true) in record {
      took = rw (c.depth_before-depth.ensures, c.line_if-line.ensures) (took_more _ _ _ _ _ _ _ (chain_turn c.args.text.now c.args.statements.now c.args.calls.now i (i - 1) l.depth one) l.invariant.took
          (rw c.line_if-line.ensures at c.in_ok-write_if_called.ensures));
    }
