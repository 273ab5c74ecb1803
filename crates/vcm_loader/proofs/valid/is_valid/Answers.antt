use Rattle.vcm_loader.proofs.Holding.{tells_valid, not_valid}
use Rattle.vcm_loader.proofs.valid.is_valid.Goals as goal

pub returns-then-all_hold : goal.returns-then-all_hold
returns-then-all_hold c =
    tells_valid c.args.code.now c.ends.result
    (rw (c.as_slice-statements.ensures, c.kinds.ensures, c.features.ensures, c.frames.ensures) at c.all_hold.ensures.so c.if-all_hold.true)
    (rw c.as_slice-statements.ensures at c.ends.ensures)

pub returns-else-all_hold : goal.returns-else-all_hold
returns-else-all_hold c =
    not_valid c.args.code.now c.all_hold.result (rw (c.as_slice-statements.ensures, c.kinds.ensures, c.features.ensures, c.frames.ensures) at c.all_hold.ensures) c.if-all_hold.false
