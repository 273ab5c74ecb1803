use Rattle.std.specs.Prelude.{codes}
use Rattle.vcm_hardware.specs.declared.fault.Where.TheVariants.{Probe}
use Rattle.vcm_hardware.specs.Told.{at_text, numbered_text}
use Rattle.vcm_hardware.proofs.Appended.{two}
use Rattle.vcm_hardware.proofs.fault.put_boxes.Goals as goal

pub returns : goal.returns
returns c =
    two _ _ _ _ (at_text (codes "H05 TooManyBoxes") (Probe c.args.number)) (numbered_text (codes " ") c.args.count) c.in_ok-put_at.ensures c.put.ensures
