use Rattle.std.proofs.lemmas.Result.{err_from_is_err_and}
use Rattle.vcm_wire.proofs.Digits.{no_digits, end_read, whole_end}
use Rattle.vcm_wire.proofs.reading.read_length.Goals as goal

pub returns-in_err-number : goal.returns-in_err-number
returns-in_err-number g c =
    let p = err_from_is_err_and c.from_residual.result c.from_residual.ensures.1 in
    rw (p.1, p.2) (no_digits _ _ c.in_err-number.ensures)

pub returns-in_err-read_text : goal.returns-in_err-read_text
returns-in_err-read_text g c =
    let p = err_from_is_err_and c.from_residual-in_err-read_text.result c.from_residual-in_err-read_text.ensures.1 in
    rw (p.1, p.2) (end_read _ _ _ _ c.in_ok-number.ensures c.in_err-read_text.ensures)

pub returns : goal.returns
returns g c = whole_end _ _ _ _ c.in_ok-number.ensures c.in_ok-read_text.ensures
