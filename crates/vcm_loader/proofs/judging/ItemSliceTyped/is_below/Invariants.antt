use Rattle.std.proofs.Common.{length}
use Rattle.vcm_loader.proofs.Judgements.{Below}
use Rattle.vcm_loader.proofs.judging.ItemSliceTyped.is_below.Given as goal

abbrev pub decreases-loop-item : goal.decreases-loop-item
decreases-loop-item l = length l.rest

abbrev pub invariant-loop-item : goal.invariant-loop-item
invariant-loop-item l = Below l.count l.self l.rest
