use Rattle.std.proofs.Common.{◌≡◌, ◌≤◌, drop}
use Rattle.vcm_plain.specs.Units.{straight_from}
use Rattle.vcm_plain.proofs.unit.all_straight.Given as goal

abbrev pub invariant-loop-logical : goal.invariant-loop-logical
invariant-loop-logical l = record {
  left : straight_from 0 l.lines ≡ straight_from l.depth (drop l.logical-index l.lines);
  few : l.depth ≤ l.logical-index;
}
