use Rattle.std.proofs.Common.{◌≡◌, drop}
use Rattle.vcm_tree.specs.Ended.{is_ended}
use Rattle.vcm_whole.specs.inner.Ending.{ended_behind}
use Rattle.vcm_whole.proofs.whole.is_ended.Given as goal

abbrev pub invariant-loop-placed : goal.invariant-loop-placed
invariant-loop-placed l = record {
  left : is_ended l.all ≡ ended_behind l.ended (drop l.placed-index l.all);
}
