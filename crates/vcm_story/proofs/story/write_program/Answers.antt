use Rattle.std.proofs.Common.{refl}
use Rattle.std.proofs.lemmas.Result.{err_from_is_err_and}
use Rattle.vcm_num.proofs.KnownWrites.{front_first, front_then, wrote_then}
use Rattle.vcm_story.proofs.story.write_program.Goals as goal

pub returns-in_err-write_text : goal.returns-in_err-write_text
returns-in_err-write_text g c =
    let p = err_from_is_err_and c.from_residual.result c.from_residual.ensures.1 in
    rw p.1 (front_first _ _ _ _ _ refl c.in_err-write_text.ensures)

pub returns-in_err-write_listing_row : goal.returns-in_err-write_listing_row
returns-in_err-write_listing_row g c =
    let p = err_from_is_err_and c.from_residual-in_err-write_listing_row.result c.from_residual-in_err-write_listing_row.ensures.1 in
    rw p.1 (front_then _ _ _ _ _ _ refl c.in_ok-write_text.ensures (front_first _ _ _ _ _ refl c.in_err-write_listing_row.ensures))

pub returns-in_err-write_code : goal.returns-in_err-write_code
returns-in_err-write_code g c =
    let p = err_from_is_err_and c.from_residual-in_err-write_code.result c.from_residual-in_err-write_code.ensures.1 in
    rw p.1 (front_then _ _ _ _ _ _ refl c.in_ok-write_text.ensures (front_then _ _ _ _ _ _ refl c.in_ok-write_listing_row.ensures (front_first _ _ _ _ _ refl c.in_err-write_code.ensures)))

pub returns : goal.returns
returns g c = wrote_then _ _ _ _ _ _ _ refl c.in_ok-write_text.ensures
    (wrote_then _ _ _ _ _ _ _ refl c.in_ok-write_listing_row.ensures (wrote_then _ _ _ _ _ _ _ refl c.in_ok-write_code.ensures (c.write_notices.ensures)))
