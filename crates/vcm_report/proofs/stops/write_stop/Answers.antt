use Rattle.std.proofs.Common.{refl, sym, ◌∙◌}
use Rattle.std.proofs.lemmas.Result.{err_from_is_err_and}
use Rattle.vcm_num.proofs.KnownWrites.{front_first, wrote_then}
use Rattle.vcm_report.proofs.stops.write_stop.Goals as goal

pub returns-in-Collision : goal.returns-in-Collision
returns-in-Collision g c =
    rw (c.in-Collision.is, sym c.phase_text.ensures, sym (c.as_bytes-block.ensures.value ∙ c.format.ensures.text), sym (c.as_bytes-permille.ensures.value ∙ c.format-in-Collision.ensures.text))
    c.write_pieces-in-Collision.ensures

pub returns-in-Travel : goal.returns-in-Travel
returns-in-Travel g c = rw (c.in-Travel.is, sym c.phase_text-in-Travel.ensures) c.write_pieces-in-Travel.ensures

pub returns-in-Missed : goal.returns-in-Missed
returns-in-Missed g c = rw c.in-Missed.is c.write_pieces-in-Missed.ensures

pub returns-in-Overflow : goal.returns-in-Overflow
returns-in-Overflow g c = rw c.in-Overflow.is c.write_pieces-in-Overflow.ensures

pub returns-in-DivZero : goal.returns-in-DivZero
returns-in-DivZero g c = rw c.in-DivZero.is c.write_pieces-in-DivZero.ensures

pub returns-in-ZeroStep : goal.returns-in-ZeroStep
returns-in-ZeroStep g c = rw c.in-ZeroStep.is c.write_pieces-in-ZeroStep.ensures

pub returns-in-BadSetting : goal.returns-in-BadSetting
returns-in-BadSetting g c = rw c.in-BadSetting.is c.write_pieces-in-BadSetting.ensures

pub returns-in-OutputFull : goal.returns-in-OutputFull
returns-in-OutputFull g c = rw c.in-OutputFull.is c.write_pieces-in-OutputFull.ensures

pub returns-in_err-write_pieces-in-Undefined : goal.returns-in_err-write_pieces-in-Undefined
returns-in_err-write_pieces-in-Undefined g c =
    let p = err_from_is_err_and c.from_residual.result c.from_residual.ensures.1 in
    rw (p.1, c.in-Undefined.is) (front_first _ _ _ _ _ refl c.in_err-write_pieces-in-Undefined.ensures)

pub returns-in_ok-write_pieces-in-Undefined : goal.returns-in_ok-write_pieces-in-Undefined
returns-in_ok-write_pieces-in-Undefined g c = rw c.in-Undefined.is (wrote_then _ _ _ _ _ _ _ refl c.in_ok-write_pieces-in-Undefined.ensures c.write_missing.ensures)
