use Rattle.std.proofs.Common.{◌≡◌, ◌∙◌, true, rules, sym, w64, FitsSigned, to_z-of_z}
use mir.Syntax.{w32}
use Rattle.vcm_num.specs.Point.{coordinate}
use Rattle.vcm_hardware.specs.HardwareFile.{is_close}
use Rattle.vcm_hardware.proofs.Choices.{close_fits, place_is}
use Rattle.vcm_hardware.proofs.reading.place_of.Goals as goal

pub returns-then-is_close-3 : goal.returns-then-is_close-3
returns-then-is_close-3 c =
    let p = c.args.point in
    let fx : FitsSigned w64 (coordinate p 0) = search rules in
    let fy : FitsSigned w64 (coordinate p 1) = search rules in
    let fz : FitsSigned w64 (coordinate p 2) = search rules in
    let x = simp to_z-of_z at c.is_close.ensures in
    let y = simp to_z-of_z at c.is_close-then-is_close.ensures in
    let z = simp to_z-of_z at c.is_close-then-is_close-2.ensures in
    let ex : is_close (coordinate p 0) ≡ true = sym x ∙ c.if-is_close.true in
    let ey : is_close (coordinate p 1) ≡ true = sym y ∙ c.if-is_close-2.true in
    let ez : is_close (coordinate p 2) ≡ true = sym z ∙ c.if-is_close-3.true in
    let gx : FitsSigned w32 (coordinate p 0) = close_fits (coordinate p 0) ex in
    let gy : FitsSigned w32 (coordinate p 1) = close_fits (coordinate p 1) ey in
    let gz : FitsSigned w32 (coordinate p 2) = close_fits (coordinate p 2) ez in
    simp to_z-of_z (place_is p ex ey ez)
