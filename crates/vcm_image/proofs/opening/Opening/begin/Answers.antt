use Rattle.std.proofs.Common.{arith}
use Rattle.std.proofs.lemmas.Result.{err_from_is_err_and}
use Rattle.vcm_image.proofs.Tables.{header_end}
use Rattle.vcm_image.proofs.Openings.{header_fails, variables_fail, features_fail, frames_fail, opens, opens_read}
use Rattle.vcm_image.proofs.opening.Opening.begin.Goals as goal

pub returns-in_err-counts : goal.returns-in_err-counts
returns-in_err-counts c =
    let p = err_from_is_err_and c.from_residual.result c.from_residual.ensures.1 in
    rw (p.1, p.2) (header_fails _ _ c.in_err-counts.ensures)

pub variables-requires : goal.variables-requires
variables-requires c = header_end _ _ (λ i. omega (arith, c.type_inv.bytes i)) c.in_ok-counts.ensures

pub returns-in_err-variables : goal.returns-in_err-variables
returns-in_err-variables c =
    let p = err_from_is_err_and c.from_residual-in_err-variables.result c.from_residual-in_err-variables.ensures.1 in
    rw (p.1, p.2) (variables_fail _ _ _ c.in_ok-counts.ensures _ c.in_err-variables.ensures.err)

pub returns-in_err-features : goal.returns-in_err-features
returns-in_err-features c =
    let p = err_from_is_err_and c.from_residual-in_err-features.result c.from_residual-in_err-features.ensures.1 in
    rw (p.1, p.2) (features_fail _ _ _ c.in_ok-counts.ensures _ _ c.in_ok-variables.ensures.ok _ c.in_err-features.ensures.err)

pub returns-in_err-frames : goal.returns-in_err-frames
returns-in_err-frames c =
    let p = err_from_is_err_and c.from_residual-in_err-frames.result c.from_residual-in_err-frames.ensures.1 in
    rw (p.1, p.2) (frames_fail _ _ _ c.in_ok-counts.ensures _ _ c.in_ok-variables.ensures.ok _ _ c.in_ok-features.ensures.ok _ c.in_err-frames.ensures.err)

pub invariant_of-result : goal.invariant_of-result
invariant_of-result c = opens _ _ _ c.in_ok-counts.ensures _ _ c.in_ok-variables.ensures.ok _ _ c.in_ok-features.ensures.ok _ _ c.in_ok-frames.ensures.ok _
    c.in_ok-statements.ensures.items (λ i. omega (arith, c.type_inv.bytes i))

pub returns : goal.returns
returns c = opens_read _ _ _ c.in_ok-counts.ensures _ _ c.in_ok-variables.ensures.ok _ _ c.in_ok-features.ensures.ok _ _ c.in_ok-frames.ensures.ok _ c.in_ok-statements.ensures.items
