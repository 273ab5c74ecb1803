use Rattle.vcm_said.proofs.settings.+say_pairs.Given as goal

abbrev pub decreases-say_pairs : goal.decreases-say_pairs
decreases-say_pairs l = l.left
