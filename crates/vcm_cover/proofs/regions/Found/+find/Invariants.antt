use Rattle.vcm_cover.proofs.regions.Found.+find.Given as goal

abbrev pub decreases-find : goal.decreases-find
decreases-find l = l.fuel
