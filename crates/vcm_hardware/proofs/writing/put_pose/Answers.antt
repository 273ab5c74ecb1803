use Rattle.std.proofs.Common.{rules, w32, FitsSigned, to_z-of_z}
use Rattle.std.specs.Prelude.{codes}
use Rattle.vcm_hardware.specs.ProbeFile.{angle_text}
use Rattle.vcm_hardware.proofs.Appended.{three}
use Rattle.vcm_hardware.proofs.writing.put_pose.Goals as goal

pub returns : goal.returns
returns c =
    let choice = c.args.choice.now in
    let fa : FitsSigned w32 c.args.choice.now.a = search rules in
    let fb : FitsSigned w32 c.args.choice.now.b = search rules in
    three _ _ _ _ _ (angle_text (codes "A") choice.a) (angle_text (codes "B") choice.b) (codes "\"\n") (simp to_z-of_z at c.in_ok-put_angle.ensures)
    (simp to_z-of_z at c.in_ok-put_angle-2.ensures) c.put_bytes.ensures
