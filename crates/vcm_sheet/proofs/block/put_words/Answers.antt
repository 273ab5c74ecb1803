use Rattle.vcm_svg.specs.Pieces.{texts}
use Rattle.vcm_sheet.proofs.Saying.{last_text}
use Rattle.vcm_sheet.proofs.block.put_words.Goals as goal

pub returns : goal.returns
returns c = last_text c.put_text.result c.words_label.result (texts c.args.words.now) _ _ c.put_text.ensures
