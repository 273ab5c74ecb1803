use Rattle.std.proofs.Common.{[], ◌∷◌}
use Rattle.vcm_svg.specs.declared.shapes.Class.TheVariants as class
use Rattle.vcm_picture.specs.declared.view.View.TheVariants.{Top, Front, Side}
use Rattle.vcm_sheet.proofs.Mute.{mute_style, mute_clips, mute_path}
use Rattle.vcm_sheet.proofs.Saying.{adds_mute, adds_then, last_mute}
use Rattle.vcm_sheet.proofs.sheet.put_ground.Goals as goal

pub returns : goal.returns
returns c =
    let r = c.put_path.result in
    adds_then r [] [] _ _ _ (adds_mute _ _ _ (mute_style c.unit.result c.args.blocks c.are_few.result) c.in_ok-put_style.ensures)
    (adds_then r [] [] _ _ _ c.in_ok-put_sheet_style.ensures
    (adds_then r [] [] _ _ _ c.in_ok-put_style_of_notes.ensures
    (adds_then r [] [] _ _ _ (adds_mute _ _ _ (mute_clips c.args.window (Top ∷ Front ∷ Side ∷ [])) c.in_ok-put_clips.ensures)
    (last_mute r _ _ _ (mute_path class.Sheet c.ground_of.result) c.put_path.ensures))))
