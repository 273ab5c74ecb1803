use Rattle.vcm_cover.proofs.space.+is_settled.Given as goal

abbrev pub decreases-is_settled : goal.decreases-is_settled
decreases-is_settled l = l.fuel
