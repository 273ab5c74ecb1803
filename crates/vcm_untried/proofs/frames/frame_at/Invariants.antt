use Rattle.std.proofs.Common.{◌≡◌, drop}
use Rattle.vcm_untried.specs.Frames.{frame_at}
use Rattle.vcm_untried.proofs.frames.frame_at.Given as goal

abbrev pub invariant-loop-frame : goal.invariant-loop-frame
invariant-loop-frame l = record { left : frame_at l.frames l.line ≡ frame_at (drop l.frame-index l.frames) l.line }
