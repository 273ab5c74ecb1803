use Rattle.std.proofs.Common.{refl}
use Rattle.std.proofs.lemmas.Result.{err_from_is_err_and}
use Rattle.vcm_listing.proofs.FaultLaws.{valid_is, valid_only, refused_only, refused_fault, invalid_only, invalid_fault, listed_fits}
use Rattle.vcm_listing.proofs.reading.read_listing.Goals as goal

pub returns-in_err-code-clause-only : goal.returns-in_err-code-clause-only
returns-in_err-code-clause-only c =
    let p = err_from_is_err_and c.from_residual.result c.from_residual.ensures.1 in
    rw (p.1, p.2) (refused_only c.args.bytes.now _ c.in_err-code.ensures)

pub returns-in_err-code-clause-fault : goal.returns-in_err-code-clause-fault
returns-in_err-code-clause-fault c =
    let p = err_from_is_err_and c.from_residual.result c.from_residual.ensures.1 in
    rw (p.1, p.2) (refused_fault c.args.bytes.now _ c.in_err-code.ensures)

pub line_count-requires : goal.line_count-requires
line_count-requires c = listed_fits c.args.bytes.now _ c.in_ok-code.ensures

pub returns-then-is_valid-clause-found : goal.returns-then-is_valid-clause-found
returns-then-is_valid-clause-found c = valid_is c.args.bytes.now _ _ c.in_ok-code.ensures c.if-is_valid.ensures refl

pub returns-then-is_valid-clause-only : goal.returns-then-is_valid-clause-only
returns-then-is_valid-clause-only c = valid_only c.args.bytes.now _ c.in_ok-code.ensures

pub returns-else-is_valid-clause-only : goal.returns-else-is_valid-clause-only
returns-else-is_valid-clause-only c = invalid_only c.args.bytes.now _ _ _ c.in_ok-code.ensures c.is_valid.ensures c.if-is_valid.false

pub returns-else-is_valid-clause-fault : goal.returns-else-is_valid-clause-fault
returns-else-is_valid-clause-fault c = invalid_fault c.args.bytes.now _ _ _ c.in_ok-code.ensures c.is_valid.ensures c.if-is_valid.false c.line_count.ensures
