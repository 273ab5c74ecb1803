use Rattle.vcm_cover.proofs.held.+is_held.Given as goal

abbrev pub decreases-is_held : goal.decreases-is_held
decreases-is_held l = l.fuel
