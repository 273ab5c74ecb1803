use Rattle.vcm_first_contact.proofs.Passes.{low_short, high_short}
use Rattle.vcm_first_contact.proofs.entry.is_between.Goals as goal

pub scaled-requires-clause-corner : goal.scaled-requires-clause-corner
scaled-requires-clause-corner c = low_short c.args.pass.now c.requires.small.pass c.args.axis c.requires.axis

pub scaled-requires-then-scaled-place-clause-corner : goal.scaled-requires-then-scaled-place-clause-corner
scaled-requires-then-scaled-place-clause-corner c = high_short c.args.pass.now c.requires.small.pass c.args.axis c.requires.axis
