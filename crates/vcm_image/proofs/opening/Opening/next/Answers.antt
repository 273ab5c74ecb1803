use Rattle.std.proofs.Common.{◌<◌, sym, subst, refl}
use Rattle.std.proofs.lemmas.Result.{err_from_is_err_and}
use Rattle.vcm_image.specs.Opened.{Opened}
use Rattle.vcm_image.proofs.Openings.{opens_fails, advanced}
use Rattle.vcm_image.proofs.opening.Opening.next.Goals as goal

pub returns-in_err-found-clause-exact : goal.returns-in_err-found-clause-exact
returns-in_err-found-clause-exact c =
    let p = err_from_is_err_and c.from_residual.result c.from_residual.ensures.1 in
    rw (p.1, p.2, ← c.self.view_is) (opens_fails _ _ _ _ _ _ _ _ _ c.self.invariant _ c.in_err-found.ensures)

pub invariant_of-self-2 : goal.invariant_of-self-2
invariant_of-self-2 c = (advanced _ _ _ _ _ _ _ _ _ c.self.invariant _ _ c.in_ok-found.ensures
    (subst (λ (o : Opened). 0 < o.left) (sym c.self.view_is) c.requires) _ _ refl c.in_ok-push.ensures.items).opens

pub returns-clause-exact : goal.returns-clause-exact
returns-clause-exact c = rw (← c.self.view_is)
    ((advanced _ _ _ _ _ _ _ _ _ c.self.invariant _ _ c.in_ok-found.ensures (subst (λ (o : Opened). 0 < o.left) (sym c.self.view_is) c.requires) _ _ refl
    c.in_ok-push.ensures.items).read)
