use Rattle.std.proofs.Common.{sym, subst}
use Rattle.vcm_spec.specs.Workpiece.{IsValid}
use Rattle.vcm_way.proofs.Stepped.{next_fits, next_near}
use Rattle.vcm_first_contact.proofs.finding.FinderFollowsOptionFirstContact.look.Goals as goal

pub look-requires-clause-fits : goal.look-requires-clause-fits
look-requires-clause-fits g c = next_fits _ _ _ _ c.requires c.requires.fit.2

pub look-requires-clause-near : goal.look-requires-clause-near
look-requires-clause-near g c = next_near _ _ _ _ c.requires (subst IsValid (sym c.requires.fit.1) c.bounds.ensures.valid)
