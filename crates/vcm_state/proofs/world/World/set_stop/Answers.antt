use Rattle.std.proofs.Common.{rules}
use Rattle.vcm_state.proofs.world.World.set_stop.Goals as goal

pub returns : goal.returns
returns c = search rules
