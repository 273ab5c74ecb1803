use Rattle.std.proofs.Common.{◌∷◌, [], ◌++◌, rules, w64, FitsSigned, to_z-of_z}
use Rattle.std.specs.Prelude.{decimal}
use Rattle.std.specs.Fmt.{signed_decimal}
use Rattle.vcm_report.specs.Printed.{name_at}
use Rattle.vcm_svg.specs.Pieces.{point_text}
use Rattle.vcm_sheet.specs.Readings.{reading_of, place_words, deviation_words}
use Rattle.vcm_sheet.specs.Sayings.{say}
use Rattle.vcm_sheet.proofs.Saying.{adds_then}
use Rattle.vcm_sheet.proofs.rows.put_point.Goals as goal

pub returns : goal.returns
returns c =
    let p = c.args.point.now in
    let r = c.put_measured.result in
    let f : FitsSigned w64 p.number = search rules in
    let reading = reading_of c.args.readings.now p.step.step in
    let line = say (decimal p.step.line ∷ []) ∷ [] in
    let name = say (name_at c.args.features.now p.touched.feature ∷ []) ∷ [] in
    let measured = say (point_text p.touched.at ∷ []) ∷ say (place_words reading ∷ []) ∷ say (deviation_words reading ∷ []) ∷ [] in
    adds_then r (say (signed_decimal p.number ∷ []) ∷ []) (line ++ (name ++ measured)) _ _ _ (simp to_z-of_z at c.in_ok-put_cell.ensures)
    (adds_then r line (name ++ measured) _ _ _ (rw c.from-line.ensures at c.in_ok-put_cell-2.ensures)
    (adds_then r name measured _ _ _ (rw c.name_at-name.ensures.name at c.in_ok-put_cell-3.ensures)
    (rw c.reading_of-reading.ensures at c.put_measured.ensures)))
