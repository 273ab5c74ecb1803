use Rattle.std.proofs.lemmas.Result.{err_from_is_err_and}
use Rattle.vcm_loader.proofs.Lines.{counts_same}
use Rattle.vcm_loader.proofs.Verdicts.{judging_fails, judging_more, judging_found}
use Rattle.vcm_loader.proofs.loading.judge_statements.Goals as goal

pub returns-in_err-statement-clause-err : goal.returns-in_err-statement-clause-err
returns-in_err-statement-clause-err c =
    let p = err_from_is_err_and c.from_residual.result c.from_residual.ensures.1 in
    rw (p.1, p.2) (judging_fails _ _ _ _ _ _ c.loop.invariant _ c.loop-test.true c.in_err-statement.ensures.exact)

pub loop-preserved : goal.loop-preserved
loop-preserved c = judging_more _ _ _ _ _ _ c.loop.invariant _ _ _ _ c.loop-test.true c.in_ok-statement.ensures.exact c.judge_next-verdict.ensures c.is_end-ends.ensures

pub returns-clause-judged : goal.returns-clause-judged
returns-clause-judged c =
    let same = counts_same c.args.image.now.code.tables c.args.kinds.now _ _ c.statement_count-statements.result c.requires.kinds c.feature_count-features.ensures c.frame_count-frames.ensures in
    c.concluded.ensures _ (judging_found _ _ _ _ _ _ c.loop.invariant c.loop-test.false same) c.loop.invariant.ended_so
