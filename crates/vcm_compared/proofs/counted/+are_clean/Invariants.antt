use Rattle.vcm_compared.proofs.counted.+are_clean.Given as goal

abbrev pub decreases-are_clean : goal.decreases-are_clean
decreases-are_clean l = l.left
