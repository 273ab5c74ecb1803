use Rattle.vcm_compared.proofs.counted.+narrowed.Given as goal

abbrev pub decreases-narrowed : goal.decreases-narrowed
decreases-narrowed l = l.left
