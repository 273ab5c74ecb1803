use Rattle.std.proofs.lemmas.Result.{err_from_is_err_and}
use Rattle.vcm_wire.proofs.Heads.{other_front}
use Rattle.vcm_wire.proofs.reading.read_head.Goals as goal

pub returns-in_err-read_text : goal.returns-in_err-read_text
returns-in_err-read_text g c =
    let p = err_from_is_err_and c.from_residual-in_err-read_text.result c.from_residual-in_err-read_text.ensures.1 in
    rw (p.1, p.2) (other_front _ _ _ (rw (c.in-Some-eq67.is, c.in-Some-eq67.field-0-test) at c.in_ok-next_byte.ensures) c.in_err-read_text.ensures)
