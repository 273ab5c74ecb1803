use Rattle.vcm_compared.proofs.texts.+add_fields.Given as goal

abbrev pub decreases-add_fields : goal.decreases-add_fields
decreases-add_fields l = l.left
