use Rattle.std.proofs.Common.{◌≡◌, ◌-◌, suc, arith}
use Rattle.std.proofs.lemmas.Result.{err_from_is_err_and}
use Rattle.vcm_print.proofs.Steps.{took_more, took_front}
use Rattle.vcm_backtrace.proofs.Turning.{loops_turn}
use Rattle.vcm_backtrace.proofs.loops.write_loops.Goals as goal

pub returns-in_err-write_at : goal.returns-in_err-write_at
returns-in_err-write_at g c =
    let p = err_from_is_err_and c.from_residual.result c.from_residual.ensures.1 in
    let s = c.args.standing.now in
    let i = c.loop-index.index in
    let one : i ≡ suc (i - 1) = omega (arith, c.loop-index-test.true) in
    rw p.1 (took_front _ _ _ _ _ _ _ (loops_turn s.tables.now s.variables.now s.rounds.now c.args.number c.args.loaded.now.statements i (i - 1) one)
    c.loop-index.invariant.took c.in_err-write_at.ensures)

pub loop-index-preserved : goal.loop-index-preserved
loop-index-preserved g c =
    let s = c.args.standing.now in
    let i = c.loop-index.index in
    let within = c.loop-index.invariant.within in
    let one : i ≡ suc (i - 1) = omega (arith, c.loop-index-test.true) in record {
      within = omega (arith, within);
      took = took_more _ _ _ _ _ _ _ (loops_turn s.tables.now s.variables.now s.rounds.now c.args.number c.args.loaded.now.statements i (i - 1) one)
          c.loop-index.invariant.took c.in_ok-write_at.ensures;
    }
