use Rattle.std.proofs.Common.{ap}
use Rattle.std.specs.Prelude.{flat_map}
use Rattle.std.proofs.lemmas.Result.{err_from_is_err_and}
use Rattle.vcm_print.proofs.Steps.{took_more, took_front}
use Rattle.vcm_rows.specs.Opening.{text_row}
use Rattle.vcm_rows.proofs.text_rows.write_text.Goals as goal

pub returns-in_err-write_line : goal.returns-in_err-write_line
returns-in_err-write_line g c =
    let p = err_from_is_err_and c.from_residual.result c.from_residual.ensures.1 in
    rw p.1 (took_front _ _ _ _ _ _ _ (ap (flat_map text_row) c.split_line.ensures.cut) c.loop-rest.invariant c.in_err-write_line.ensures)

pub loop-rest-preserved : goal.loop-rest-preserved
loop-rest-preserved g c = took_more _ _ _ _ _ _ _ (ap (flat_map text_row) c.split_line.ensures.cut) c.loop-rest.invariant c.in_ok-write_line.ensures
