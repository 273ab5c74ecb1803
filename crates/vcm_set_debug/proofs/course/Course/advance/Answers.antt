use Rattle.std.proofs.Common.{◌<◌, ◌+◌, length, sym, ap, ◌∙◌, subst, rules}
use Rattle.vcm_set_debug.specs.Reached.{behind, now, lost}
use Rattle.vcm_set_debug.specs.inner.Going.{HasReached}
use Rattle.vcm_set_debug.proofs.Taking.{go_stop, farther, wants}
use Rattle.vcm_set_debug.proofs.course.Course.advance.Goals as goal

pub step-requires : goal.step-requires
step-requires g c =
    let r = c.args.self.now in
    let h = subst (λ x. HasReached x c.self.inside.machine) c.self.view_is c.self.invariant.0 in
    ap (λ m. m.state.world.stop) h.machine_is ∙ go_stop (now r).state.world.stop (lost r r.count) c.requires.goes

pub invariant_of-self : goal.invariant_of-self
invariant_of-self g c =
    let r = c.args.self.now in
    let v = c.self.invariant in
    let m = c.self.inside.machine in
    let h = subst (λ x. HasReached x m) c.self.view_is v.0 in
    let within : (now r).state.next < length r.code.statements =
    subst (λ x. x.state.next < length x.code.statements) h.machine_is (subst (λ n. n < length m.code.statements) c.next-next.ensures.is c.next-next.ensures.within) in
    (subst (λ x. HasReached (behind x (x.count + 1)) c.step.new.self) (sym c.self.view_is) (farther r m c.step.new.self _ h c.requires.goes within c.in-Ok.ensures.ok), v.1, v.2, v.3, v.4, v.5)

pub returns-in-Err-clause-err : goal.returns-in-Err-clause-err
returns-in-Err-clause-err g c =
    let h = subst (λ x. HasReached x c.self.inside.machine) c.self.view_is c.self.invariant.0 in
    (search rules, wants c.args.self.now c.self.inside.machine h c.in-Err.ensures.err.1)
