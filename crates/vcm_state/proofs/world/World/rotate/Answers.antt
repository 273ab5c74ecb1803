use Rattle.std.proofs.Common.{refl}
use Rattle.vcm_state.proofs.Changes.{rotated}
use Rattle.vcm_state.proofs.world.World.rotate.Goals as goal

pub returns : goal.returns
returns c part = rw (← c.self.view_is, c.set.ensures, c.from.ensures) (rotated _ _ _ _ _ _ c.turned-turned.ensures, (refl, refl))
