use Rattle.std.proofs.Common.{◌≡◌, length}
use Rattle.vcm_over.specs.Known.{frame_with}
use Rattle.vcm_over.proofs.known.frame_with.Given as goal

abbrev pub invariant-each : goal.invariant-each
invariant-each l = frame_with l.number l.fn.saved l.fn.frames ≡ frame_with l.number l.saved l.frames

abbrev pub decreases-each : goal.decreases-each
decreases-each l = length l.frames
