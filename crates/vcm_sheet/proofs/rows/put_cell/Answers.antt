use Rattle.std.proofs.Common.{◌∷◌, []}
use Rattle.vcm_svg.specs.Pieces.{joined, piece_text}
use Rattle.vcm_sheet.proofs.Saying.{last_text}
use Rattle.vcm_sheet.proofs.rows.put_cell.Goals as goal

pub returns : goal.returns
returns c = last_text c.put_text.result c.cell.result (joined (piece_text c.args.words ∷ [])) _ _ c.put_text.ensures
