use Rattle.vcm_carried.proofs.Widened.{grown_box}
use Rattle.vcm_carried.proofs.Widened.{low_corner, high_corner}
use Rattle.vcm_carried.proofs.wider.grown.Goals as goal

pub lowered-requires-clause-at : goal.lowered-requires-clause-at
lowered-requires-clause-at c = low_corner c.args.carried.now c.requires.carried

pub raised-requires-clause-at : goal.raised-requires-clause-at
raised-requires-clause-at c = high_corner c.args.carried.now c.requires.carried

pub returns-clause-wide : goal.returns-clause-wide
returns-clause-wide c = rw (c.lowered.ensures, c.raised.ensures) (grown_box c.args.by c.args.carried.now c.requires.by c.requires.carried)
