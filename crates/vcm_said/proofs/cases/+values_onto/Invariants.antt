use Rattle.vcm_said.proofs.cases.+values_onto.Given as goal

abbrev pub decreases-values_onto : goal.decreases-values_onto
decreases-values_onto l = l.left
