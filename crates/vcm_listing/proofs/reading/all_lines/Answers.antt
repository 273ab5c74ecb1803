use Rattle.std.proofs.Common.{inr, ap, sym, ◌∙◌, Err}
use Rattle.vcm_listing.proofs.ReadLaws.{no_line, first_fails, first_goes, bad_line}
use Rattle.vcm_listing.proofs.reading.all_lines.Goals as goal

pub returns-in-Err : goal.returns-in-Err
returns-in-Err c = first_fails _ _ c.in-Some.rest.now c.in-Err.e _ c.in-Some.ensures.some c.in-Err.ensures.err c.at_line-in-Err.ensures.want c.at_line-in-Err.ensures.told

pub returns-in-None : goal.returns-in-None
returns-in-None c = inr (no_line _ _ c.in-None.ensures.none.1 ∙ ap (λ f. Err f) (sym (c.at_line.ensures.told bad_line)))

pub returns-in-Ok : goal.returns-in-Ok
returns-in-Ok c = first_goes _ _ _ c.in-Some.rest.now c.lines.result c.in-Some.ensures.some c.in-Ok.ensures.ok c.lines.ensures
