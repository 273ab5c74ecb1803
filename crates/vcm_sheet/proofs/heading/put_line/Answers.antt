use Rattle.vcm_svg.specs.Pieces.{texts}
use Rattle.vcm_sheet.proofs.Saying.{adds_text}
use Rattle.vcm_sheet.proofs.heading.put_line.Goals as goal

pub returns : goal.returns
returns c = adds_text c.line_label.result (texts c.args.words.now) _ _ c.in_ok-put_text.ensures
