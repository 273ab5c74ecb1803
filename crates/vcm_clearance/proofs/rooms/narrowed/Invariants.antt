use Rattle.std.proofs.Common.{◌<◌, ◌≤◌, ◌-◌}
use Rattle.vcm_clearance.specs.inner.Following.{IsClearWith, IsMetWith}
use Rattle.vcm_clearance.proofs.rooms.narrowed.Given as goal

abbrev pub invariant-loop-beyond : goal.invariant-loop-beyond
invariant-loop-beyond l = record {
  order : l.clear < l.beyond;
  most : l.beyond ≤ l.wide;
  free : IsClearWith l.blocks.blocks l.body l.gone l.clear;
  narrow : IsMetWith l.blocks.blocks l.body l.gone l.beyond l.found;
}

abbrev pub decreases-loop-beyond : goal.decreases-loop-beyond
decreases-loop-beyond l = l.beyond - l.clear
