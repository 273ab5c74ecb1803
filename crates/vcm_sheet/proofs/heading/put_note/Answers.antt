use Rattle.std.proofs.Common.{◌∷◌, []}
use Rattle.vcm_svg.specs.Pieces.{joined}
use Rattle.vcm_sheet.specs.Written.{written}
use Rattle.vcm_sheet.proofs.Saying.{adds_text}
use Rattle.vcm_sheet.proofs.heading.put_note.Goals as goal

pub returns : goal.returns
returns c =
    adds_text c.line_label-label.result (joined (written c.args.line.now ∷ [])) _ _
    (rw (c.as_slice.ensures.value, c.in_ok-words.ensures) at c.in_ok-put_text.ensures)
