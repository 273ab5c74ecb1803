use Rattle.std.proofs.Common.{◌∙◌, sym, arith}
use Rattle.vcm_hardware.proofs.Choices.{poses_are}
use Rattle.vcm_hardware.proofs.writing.has_poses.Goals as goal

pub returns-in-len1-up : goal.returns-in-len1-up
returns-in-len1-up c =
    c.is_any_other.ensures ∙ poses_are c.args.choices.now c.first-item.result (omega arith) (sym c.first-item.is)
