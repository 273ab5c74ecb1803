use Rattle.vcm_compared.proofs.puts.+texts_onto.Given as goal

abbrev pub decreases-texts_onto : goal.decreases-texts_onto
decreases-texts_onto l = l.left
