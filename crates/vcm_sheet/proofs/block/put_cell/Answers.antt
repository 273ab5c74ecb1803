use Rattle.std.proofs.Common.{◌∷◌, []}
use Rattle.vcm_svg.specs.Pieces.{texts}
use Rattle.vcm_sheet.specs.Sayings.{Words, say}
use Rattle.vcm_sheet.proofs.Saying.{adds_then}
use Rattle.vcm_sheet.proofs.block.put_cell.Goals as goal

pub returns : goal.returns
returns c =
    adds_then c.put_words-2.result (say (c.args.what.now ∷ []) ∷ []) (Words (texts c.args.value.now) ∷ []) _ _ _ c.in_ok-put_words.ensures
    c.put_words-2.ensures
