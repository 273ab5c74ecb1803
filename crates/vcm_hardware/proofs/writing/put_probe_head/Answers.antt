use Rattle.std.proofs.Common.{◌≡◌, ◌∷◌, [], rules, w64, FitsSigned, to_z-of_z}
use Rattle.std.specs.Prelude.{codes}
use Rattle.std.specs.Fmt.{signed_decimal}
use Rattle.vcm_hardware.specs.Boxes.{tip_of, centre, pivot}
use Rattle.vcm_hardware.specs.Pieces.{point_text, joined}
use Rattle.vcm_hardware.specs.ProbeFile.{half_tip}
use Rattle.vcm_hardware.proofs.Appended.{three}
use Rattle.vcm_hardware.proofs.writing.put_probe_head.Goals as goal

pub returns : goal.returns
returns c =
    let h = c.args.hardware.now in
    let t = c.args.turning.now in
    let choice = c.args.choice.now in
    let fn : FitsSigned w64 c.from.result = search rules in
    let fh : FitsSigned w64 c.half_tip.result = search rules in
    let n : c.from.result ≡ choice.number = search rules in
    let half : c.half_tip.result ≡ half_tip h.balls choice = rw c.balls-2.ensures at c.half_tip.ensures in
    let tip : c.tip_of-tip.result ≡ tip_of h.balls choice = rw c.balls.ensures at c.tip_of-tip.ensures in
    let at_centre : c.pivot.result ≡ pivot (centre t (tip_of h.balls choice)) = rw (c.centre.ensures.value, tip) at c.pivot.ensures in
    let last = simp to_z-of_z at c.put.ensures in
    three _ _ _ _ _ (codes "[[probe]]\nname = \"") choice.name
    (joined (codes "\"\nnumber = " ∷ signed_decimal choice.number ∷ codes "\ntip = " ∷ signed_decimal (half_tip h.balls choice) ∷ codes "\npivot = "
    ∷ point_text (pivot (centre t (tip_of h.balls choice))) ∷ codes "\npose = \"" ∷ []))
    c.in_ok-put_bytes.ensures (rw c.as_bytes.ensures at c.in_ok-put_bytes-2.ensures) (rw (n, half, at_centre) at last)
