use Rattle.std.proofs.Common.{refl, rules, FitsSigned, w64, to_z-of_z}
use Rattle.vcm_state.proofs.Changes.{set_to, bad_setting}
use Rattle.vcm_state.proofs.world.World.snset.Goals as goal

pub returns-in-Some : goal.returns-in-Some
returns-in-Some c part =
    let fits : FitsSigned w64 c.args.length = search rules in
    rw (← c.self.view_is) (set_to _ _ _ _ _ (rw (to_z-of_z fits) at c.in-Some.ensures), (refl, refl))

pub returns-in-None : goal.returns-in-None
returns-in-None c part =
    let fits : FitsSigned w64 c.args.length = search rules in
    rw (← c.self.view_is) ((bad_setting _ _ _ _ (rw (to_z-of_z fits) at c.in-None.ensures), refl), (refl, refl))
