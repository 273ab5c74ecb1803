use Rattle.std.proofs.Common.{[], ◌++◌, rules, w64, FitsSigned, to_z-of_z}
use Rattle.std.specs.Prelude.{codes}
use Rattle.vcm_sheet.specs.Block.{cell, tip_cell, last_cells, names_said}
use Rattle.vcm_sheet.specs.Paper.{scale_words}
use Rattle.vcm_sheet.proofs.Saying.{adds_then}
use Rattle.vcm_sheet.proofs.block.put_block.Goals as goal

pub returns : goal.returns
returns c =
    let r = c.put_last.result in
    let names = names_said c.args.title.now c.args.part.now in
    let tip = tip_cell c.args.tip in
    let scale = cell (codes "scale") (scale_words c.args.scale) in
    let last = last_cells c.args.paper in
    let f : FitsSigned w64 c.args.scale = search rules in
    adds_then r [] (names ++ (tip ++ (scale ++ last))) _ _ _ c.in_ok-put_frame.ensures
    (adds_then r [] (names ++ (tip ++ (scale ++ last))) _ _ _ c.in_ok-put_borders.ensures
    (adds_then r names (tip ++ (scale ++ last)) _ _ _ c.in_ok-put_names.ensures
    (adds_then r tip (scale ++ last) _ _ _ c.in_ok-put_tip.ensures
    (adds_then r scale last _ _ _ (simp to_z-of_z at c.in_ok-put_scale.ensures) c.put_last.ensures))))
