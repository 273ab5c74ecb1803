use Rattle.std.proofs.lemmas.Result.{err_from_is_err_and}
use Rattle.vcm_wire.proofs.Heads.{unframed}
use Rattle.vcm_wire.proofs.frames.read_frame.Goals as goal

pub returns-in_err-count-clause-fault : goal.returns-in_err-count-clause-fault
returns-in_err-count-clause-fault g c =
    let p = err_from_is_err_and c.from_residual.result c.from_residual.ensures.1 in
    rw (p.1, p.2) (unframed _ _ _ c.in_err-count.ensures)
