use Rattle.std.proofs.lemmas.Result.{err_from_is_err_and}
use Rattle.vcm_image.proofs.Openings.{begun_fails, reading, reading_more, reading_fails, reading_ended}
use Rattle.vcm_image.proofs.opening.opened.Goals as goal

pub returns-in_err-opening : goal.returns-in_err-opening
returns-in_err-opening c =
    let p = err_from_is_err_and c.from_residual.result c.from_residual.ensures.1 in
    rw (p.1, p.2) (begun_fails _ _ c.in_err-opening.ensures)

pub loop-init : goal.loop-init
loop-init c = reading _ _ _ c.in_ok-opening.ensures c.statement_count-end.ensures

pub returns-in_err-_statement : goal.returns-in_err-_statement
returns-in_err-_statement c =
    let p = err_from_is_err_and c.from_residual-in_err-_statement.result c.from_residual-in_err-_statement.ensures.1 in
    rw (p.1, p.2) (reading_fails _ _ _ _ c.loop.invariant _ c.loop-test.true c.in_err-_statement.ensures.exact)

pub loop-preserved : goal.loop-preserved
loop-preserved c = reading_more _ _ _ _ c.loop.invariant _ _ c.loop-test.true c.in_ok-_statement.ensures.exact

pub returns : goal.returns
returns c = reading_ended _ _ _ _ c.loop.invariant _ _ c.loop-test.false c.finish.ensures
