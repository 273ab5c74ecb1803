use Rattle.vcm_templates.proofs.exact.+divisor_in.Given as goal

abbrev pub decreases-divisor_in : goal.decreases-divisor_in
decreases-divisor_in l = l.steps
