use Rattle.vcm_given.proofs.fields.+last_number.Given as goal

abbrev pub decreases-last_number : goal.decreases-last_number
decreases-last_number l = l.left
