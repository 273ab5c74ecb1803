use Rattle.std.proofs.Common.{◌≡◌, ◌-◌, suc, arith}
use Rattle.std.proofs.lemmas.Result.{err_from_is_err_and}
use Rattle.vcm_print.proofs.Steps.{took_more, took_front}
use Rattle.vcm_backtrace.proofs.Chains.{number_turn}
use Rattle.vcm_backtrace.proofs.calls.write_numbers.Goals as goal

pub returns-in_err-write_if_number : goal.returns-in_err-write_if_number
returns-in_err-write_if_number g c =
    let p = err_from_is_err_and c.from_residual.result c.from_residual.ensures.1 in
    let l = c.loop-left in
    let i = l.left in
    let one : i ≡ suc (i - 1) = omega (arith, c.loop-left-test.true) in
    rw p.1 (took_front _ _ _ _ _ _ _ (number_turn c.args.calls.now l.is_first i (i - 1) l.depth one) l.invariant.took
    (rw c.line_if-line.ensures at c.in_err-write_if_number.ensures))

pub loop-left-preserved : goal.loop-left-preserved
loop-left-preserved g c =
    let l = c.loop-left in
    let i = l.left in
    let one : i ≡ suc (i - 1) = omega (arith, c.loop-left-test.true) in record {
      took = rw (c.depth_before-depth.ensures, c.first_after-is_first.ensures, c.line_if-line.ensures) (took_more _ _ _ _ _ _ _ (number_turn c.args.calls.now l.is_first i (i - 1) l.depth one) l.invariant.took
          (rw c.line_if-line.ensures at c.in_ok-write_if_number.ensures));
    }
