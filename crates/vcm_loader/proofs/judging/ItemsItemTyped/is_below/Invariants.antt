use Rattle.std.proofs.Common.{drop}
use Rattle.vcm_loader.proofs.Judgements.{Below}
use Rattle.vcm_loader.proofs.judging.ItemsItemTyped.is_below.Given as goal

abbrev pub invariant-loop-item : goal.invariant-loop-item
invariant-loop-item l = Below l.count l.self (drop l.item-index l.self)
