use Rattle.std.proofs.Common.{◌-◌, ◌∷◌, []}
use Rattle.std.specs.Prelude.{decimal}
use Rattle.vcm_svg.specs.Pieces.{joined}
use Rattle.vcm_sheet.specs.Views.{missing_words}
use Rattle.vcm_sheet.proofs.Saying.{last_text}
use Rattle.vcm_sheet.proofs.Tabled.{some_left}
use Rattle.vcm_sheet.proofs.sheet.put_missing.Goals as goal

pub returns : goal.returns
returns c =
    let missing = c.args.points - c.args.numbers in
    rw (some_left missing (rw c.saturating_sub-missing.ensures at c.if-missing-eq0.false))
    (last_text c.put_text.result c.missing_label.result (joined (decimal missing ∷ missing_words missing ∷ [])) _ _
    (rw (c.missing_words.ensures, c.saturating_sub-missing.ensures) at c.put_text.ensures))
