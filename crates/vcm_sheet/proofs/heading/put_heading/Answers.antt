use Rattle.std.proofs.Common.{◌++◌}
use Rattle.vcm_sheet.specs.Content.{filing}
use Rattle.vcm_sheet.specs.Heading.{stop_line, files_line, position_line, lines_line, contact_line, left_out_line, untried_lines}
use Rattle.vcm_sheet.proofs.Saying.{adds_last}
use Rattle.vcm_sheet.proofs.heading.put_heading.Goals as goal

pub returns : goal.returns
returns c =
    let f = filing c.args.sheet.now in
    let r = c.put_untried.result in
    let files = files_line f.program_name f.part_name f.part.bounds.tip in
    let position = position_line c.args.is_drawn f.held.state.position f.done in
    let lines = lines_line f.lines in
    let contact = contact_line f.block_names c.args.contact in
    let left_out = left_out_line f.left_out in
    let untried = untried_lines f.untried in
    adds_last r (stop_line c.args.is_drawn c.args.first.now) (files ++ (position ++ (lines ++ (contact ++ (left_out ++ untried))))) _ _ _ c.in_ok-down.ensures
    (adds_last r files (position ++ (lines ++ (contact ++ (left_out ++ untried)))) _ _ _ c.in_ok-down-2.ensures
    (adds_last r position (lines ++ (contact ++ (left_out ++ untried))) _ _ _ (rw c.position-position.ensures at c.in_ok-down-3.ensures)
    (adds_last r lines (contact ++ (left_out ++ untried)) _ _ _ c.in_ok-down-4.ensures
    (adds_last r contact (left_out ++ untried) _ _ _ c.in_ok-down-5.ensures
    (adds_last r left_out untried _ _ _ c.in_ok-down-6.ensures c.put_untried.ensures)))))
