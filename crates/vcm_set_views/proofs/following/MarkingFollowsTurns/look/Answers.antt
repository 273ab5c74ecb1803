use Rattle.vcm_set_clearance.proofs.Stepping.{turned_fits}
use Rattle.vcm_set_views.proofs.following.MarkingFollowsTurns.look.Goals as goal

pub look-requires-clause-fits : goal.look-requires-clause-fits
look-requires-clause-fits g c = turned_fits _ _ _ _ _ c.requires c.requires.fit.5
