use Rattle.std.proofs.Common.{◌∷◌, []}
use Rattle.std.specs.Prelude.{decimal, codes}
use Rattle.vcm_svg.specs.Pieces.{joined}
use Rattle.vcm_sheet.proofs.Saying.{last_text}
use Rattle.vcm_sheet.proofs.Tabled.{range_said}
use Rattle.vcm_sheet.proofs.rows.put_range.Goals as goal

pub returns : goal.returns
returns c =
    range_said c.put_text.result c.args.first c.args.last _ _ c.if-first-last.false
    (last_text c.put_text.result c.cell.result (joined (decimal c.args.first ∷ codes "-" ∷ decimal c.args.last ∷ [])) _ _ c.put_text.ensures)
