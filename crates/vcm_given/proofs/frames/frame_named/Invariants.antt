use Rattle.std.proofs.Common.{◌≡◌, drop}
use Rattle.vcm_given.specs.Chosen.{frame_named}
use Rattle.vcm_given.proofs.frames.frame_named.Given as goal

abbrev pub invariant-loop-frame : goal.invariant-loop-frame
invariant-loop-frame l = record {
  left : frame_named l.name l.frames ≡ frame_named l.name (drop l.frame-index l.frames);
}
