use Rattle.std.proofs.Common.{arith}
use Rattle.std.proofs.lemmas.Result.{err_from_is_err_and}
use Rattle.vcm_image.proofs.Openings.{begun_bare}
use Rattle.vcm_loader.proofs.Verdicts.{begin_fails, rest_fails, end_fails, end_refuses, end_valid}
use Rattle.vcm_loader.proofs.loading.judged.Goals as goal

pub returns-in_err-image-clause-fault : goal.returns-in_err-image-clause-fault
returns-in_err-image-clause-fault c =
    let p = err_from_is_err_and c.from_residual.result c.from_residual.ensures.1 in
    rw (p.1, p.2) (begin_fails _ _ c.in_err-image.ensures)

pub judge-requires : goal.judge-requires
judge-requires c = begun_bare _ _ c.in_ok-image.ensures

pub returns-in_err-verdict-clause-fault : goal.returns-in_err-verdict-clause-fault
returns-in_err-verdict-clause-fault c =
    let p = err_from_is_err_and c.from_residual-in_err-verdict.result c.from_residual-in_err-verdict.ensures.1 in
    rw (p.1, p.2) (rest_fails _ _ _ c.in_ok-image.ensures c.in_err-verdict.ensures.err)

pub returns-in_err-scanned-clause-fault : goal.returns-in_err-scanned-clause-fault
returns-in_err-scanned-clause-fault c =
    let p = err_from_is_err_and c.from_residual-in_err-scanned.result c.from_residual-in_err-scanned.ensures.1 in
    rw (p.1, p.2) (end_fails _ _ _ c.in_ok-image.ensures c.in_ok-verdict.ensures.read.1 c.in_ok-verdict.ensures.read.0 _ c.in_err-scanned.ensures)

pub returns-in_err-verdict-2-clause-fault : goal.returns-in_err-verdict-2-clause-fault
returns-in_err-verdict-2-clause-fault c =
    let p = err_from_is_err_and c.from_residual-in_err-verdict-2.result c.from_residual-in_err-verdict-2.ensures.1 in
    rw (p.1, p.2) (end_refuses _ _ _ c.in_ok-image.ensures c.in_ok-verdict.ensures.read.1 c.in_ok-verdict.ensures.read.0 _ c.in_ok-scanned.ensures _
    (rw c.in_err-verdict-2.was at c.in_ok-verdict.ensures.judged))

pub returns-clause-found : goal.returns-clause-found
returns-clause-found c =
    rw c.new.ensures (end_valid _ _ _ c.in_ok-image.ensures c.in_ok-verdict.ensures.read.1 c.in_ok-verdict.ensures.read.0 _ c.in_ok-scanned.ensures
    (λ i. omega (arith, c.type_inv.bytes i)) (rw c.in_ok-verdict-2.was at c.in_ok-verdict.ensures.judged))
