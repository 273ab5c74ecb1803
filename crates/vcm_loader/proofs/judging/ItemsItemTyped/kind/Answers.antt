use Rattle.vcm_loader.proofs.judging.ItemsItemTyped.kind.Goals as goal

pub returns-clause-none : goal.returns-clause-none
returns-clause-none c = rw c.as_slice.ensures at c.postfix_kind.ensures.none
