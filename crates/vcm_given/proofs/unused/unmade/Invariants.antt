use Rattle.std.proofs.Common.{◌≡◌, drop}
use Rattle.vcm_given.specs.Unused.{unmade}
use Rattle.vcm_given.proofs.unused.unmade.Given as goal

abbrev pub invariant-loop-frame : goal.invariant-loop-frame
invariant-loop-frame l = record {
  left : unmade l.said l.frames ≡ unmade l.said (drop l.frame-index l.frames);
}
