use Rattle.vcm_compared.proofs.relations.+chained.Given as goal

abbrev pub decreases-chained : goal.decreases-chained
decreases-chained l = l.left
