use Rattle.vcm_meant.proofs.Turned.{fits_there}
use Rattle.vcm_meant.proofs.turning.NotingFollowsTurnsProgress.look.Goals as goal

pub look-requires-clause-fits : goal.look-requires-clause-fits
look-requires-clause-fits c = fits_there _ _ _ _ _ c.requires c.requires.fit.1
