use Rattle.std.proofs.Common.{refl, ◌∷◌, [], rules, w64, FitsSigned, to_z-of_z}
use Rattle.std.specs.Prelude.{codes}
use Rattle.vcm_svg.specs.Pieces.{joined}
use Rattle.vcm_sheet.specs.Ticks.{tick_words, tick_said}
use Rattle.vcm_sheet.proofs.Mute.{known}
use Rattle.vcm_sheet.proofs.Saying.{adds_line, adds_then, last_with}
use Rattle.vcm_sheet.proofs.frames.put_tick_up.Goals as goal

pub returns : goal.returns
returns c =
    let ft : FitsSigned w64 c.args.tick = search rules in
    adds_then c.put_length.result [] (tick_said c.args.tick) _ _ _ (adds_line (codes "k") _ _ _ _ (known (λ rest. refl)) c.in_ok-put_line.ensures)
    (last_with c.put_length.result _ _ (codes " class=\"r\"") (joined (tick_words c.args.tick ∷ [])) _ _ refl (simp to_z-of_z at c.put_length.ensures))
