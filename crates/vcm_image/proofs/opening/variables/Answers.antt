use Rattle.std.proofs.Common.{arith}
use Rattle.std.proofs.lemmas.Result.{err_from_is_err_and}
use Rattle.vcm_fields.specs.Readers.{entry_at}
use Rattle.vcm_fields.proofs.Parts.{reads_entry}
use Rattle.vcm_image.proofs.Tables.{filling, filled_more, filled_fails, filled}
use Rattle.vcm_image.proofs.opening.variables.Goals as goal

pub loop-init : goal.loop-init
loop-init c = rw c.new-starts.ensures.items (filling entry_at _ _ _ c.requires (λ i. omega (arith, c.type_inv.bytes i)))

pub returns-in_err-_variable-clause-err : goal.returns-in_err-_variable-clause-err
returns-in_err-_variable-clause-err c =
    let p = err_from_is_err_and c.from_residual.result c.from_residual.ensures.1 in
    rw (p.1, p.2) (filled_fails entry_at _ _ _ _ _ _ _ c.loop.invariant c.loop-test.true c.in_err-_variable.ensures)

pub loop-preserved : goal.loop-preserved
loop-preserved c = filled_more reads_entry _ _ _ _ _ _ _ _ _ c.loop.invariant c.loop-test.true c.in_ok-_variable.ensures c.in_ok-push.ensures.items

pub returns-clause-ok : goal.returns-clause-ok
returns-clause-ok c = filled entry_at _ _ _ _ _ _ c.loop.invariant c.loop-test.false
