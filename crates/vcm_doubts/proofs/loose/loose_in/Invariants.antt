use Rattle.std.proofs.Common.{◌≡◌, [], ◌++◌, drop}
use Rattle.vcm_doubts.specs.Doubts.{loose_from}
use Rattle.vcm_doubts.proofs.loose.loose_in.Given as goal

abbrev pub invariant-loop-logical : goal.invariant-loop-logical
invariant-loop-logical l = record {
  left : loose_from [] l.lines ≡ l.out ++ loose_from l.names (drop l.logical-index l.lines);
}
