use Rattle.std.proofs.Common.{subst}
use Rattle.vcm_set_debug.specs.inner.Going.{HasReached}
use Rattle.vcm_set_debug.proofs.course.Course.known_taken.Goals as goal

pub returns : goal.returns
returns g c =
    let h = subst (λ r. HasReached r c.self.inside.machine) c.self.view_is c.self.invariant.0 in
    h.taken
