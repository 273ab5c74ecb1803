use Rattle.std.proofs.Common.{rules}
use Rattle.vcm_clearance.proofs.clearing.try_run.Goals as goal

pub returns-in-Ok-clause-has : goal.returns-in-Ok-clause-has
returns-in-Ok-clause-has g c = (let has = c.in-Ok.ensures.has in (c.follow_run.new.to.rounds, (has.4.0, λ from n told start at. (let r = has.4.1 from n told start at in search (rules, r)))))
