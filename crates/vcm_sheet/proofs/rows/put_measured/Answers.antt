use Rattle.std.proofs.Common.{◌∷◌, [], ◌++◌}
use Rattle.vcm_svg.specs.Pieces.{point_text}
use Rattle.vcm_sheet.specs.Readings.{place_words, deviation_words}
use Rattle.vcm_sheet.specs.Sayings.{say}
use Rattle.vcm_sheet.proofs.Saying.{adds_then}
use Rattle.vcm_sheet.proofs.rows.put_measured.Goals as goal

pub returns : goal.returns
returns c =
    let r = c.put_cell-3.result in
    let place = say (place_words c.args.reading ∷ []) ∷ [] in
    let off = say (deviation_words c.args.reading ∷ []) ∷ [] in
    adds_then r (say (point_text c.args.touched ∷ []) ∷ []) (place ++ off) _ _ _ c.in_ok-put_cell.ensures
    (adds_then r place off _ _ _ (rw c.place_words.ensures at c.in_ok-put_cell-2.ensures) (rw c.deviation_words.ensures at c.put_cell-3.ensures))
