use Rattle.std.proofs.Common.{sym, subst}
use Rattle.vcm_spec.specs.Workpiece.{IsValid}
use Rattle.vcm_way.proofs.Stepped.{next_fits, next_near}
use Rattle.vcm_meant.proofs.following.NotingFollowsProgress.look.Goals as goal

pub look-requires-clause-fits : goal.look-requires-clause-fits
look-requires-clause-fits c = next_fits _ _ _ _ c.requires c.requires.fit.1

pub look-requires-clause-near : goal.look-requires-clause-near
look-requires-clause-near c = next_near _ _ _ _ c.requires (subst IsValid (sym c.requires.fit.0) c.bounds.ensures.valid)
