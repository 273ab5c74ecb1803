use Rattle.std.proofs.Common.{◌≡◌, drop, pos}
use Rattle.vcm_hardware.specs.ProbeFile.{most_steps}
use Rattle.vcm_hardware.proofs.writing.most_steps.Given as goal

abbrev pub invariant-loop-choice : goal.invariant-loop-choice
invariant-loop-choice l = record { so_far : most_steps l.most (drop l.choice-index l.choices) ≡ most_steps (pos 0) l.choices }
