use Rattle.vcm_motion.proofs.Inside.{low_reachable, high_reachable}
use Rattle.vcm_carried.proofs.Widened.{low_corner, high_corner}
use Rattle.vcm_first_contact.proofs.spread.spread.Goals as goal

pub apart-requires-clause-one : goal.apart-requires-clause-one
apart-requires-clause-one c = low_reachable c.args.block.now c.requires.block

pub apart-requires-clause-other : goal.apart-requires-clause-other
apart-requires-clause-other c = high_corner c.args.carried.now c.requires.carried

pub apart-requires-2-clause-one : goal.apart-requires-2-clause-one
apart-requires-2-clause-one c = high_reachable c.args.block.now c.requires.block

pub apart-requires-2-clause-other : goal.apart-requires-2-clause-other
apart-requires-2-clause-other c = low_corner c.args.carried.now c.requires.carried
