use Rattle.std.proofs.Common.{refl}
use Rattle.std.proofs.lemmas.Result.{err_from_is_err_and}
use Rattle.vcm_num.proofs.KnownWrites.{front_first, wrote_then}
use Rattle.vcm_why.proofs.stops.write_text.Goals as goal

pub returns-in_err-write_source_line : goal.returns-in_err-write_source_line
returns-in_err-write_source_line g c =
    let p = err_from_is_err_and c.from_residual.result c.from_residual.ensures.1 in rw p.1 (front_first _ _ _ _ _ refl c.in_err-write_source_line.ensures)

pub returns : goal.returns
returns g c = wrote_then _ _ _ _ _ _ _ refl c.in_ok-write_source_line.ensures (rw (c.tables.ensures, c.variables.ensures.values) at c.write_sourced.ensures)
