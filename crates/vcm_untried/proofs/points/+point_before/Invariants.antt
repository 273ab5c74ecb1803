use Rattle.vcm_untried.proofs.points.+point_before.Given as goal

abbrev pub decreases-point_before : goal.decreases-point_before
decreases-point_before l = l.number
