use Rattle.std.proofs.Common.{◌≡◌, true, false, None, Some, slice_get, sym, ap, ◌∙◌, subst}
use Rattle.std.specs.Prelude.{MatchOption}
use Rattle.vcm_debug.proofs.Coming.{none_of}
use Rattle.vcm_turning.specs.Choosing.{value_of}
use Rattle.vcm_turning.specs.Machine.{Turner, turned_of}
use Rattle.vcm_turning.specs.Turning.{is_lost}
use Rattle.vcm_turning.proofs.Followed.{stands_there}
use Rattle.vcm_set_debug.specs.Reached.{now}
use Rattle.vcm_set_debug.specs.inner.Going.{HasReached}
use Rattle.vcm_set_debug.proofs.Taking.{stopped_held, loss_is}
use Rattle.vcm_set_debug.proofs.course.Course.lost.Goals as goal

pub returns-then-is_some : goal.returns-then-is_some
returns-then-is_some g c =
    let r = c.args.self.now in
    let h = subst (λ x. HasReached x c.self.inside.machine) c.self.view_is c.self.invariant.0 in
    let stop = sym (ap (λ m. m.state.world.stop) h.machine_is) ∙ sym (ap (λ w. w.stop) c.world.ensures.state) ∙ sym c.stop.ensures in
    sym (stopped_held r c.stop.result h.going stop (sym c.if-is_some.ensures))

pub lost-requires : goal.lost-requires
lost-requires g c =
    let i = c.self.inside in
    stands_there i.machine i.loaded.now c.next.result c.statement-statement.result (ap (λ m. m.code) c.self.invariant.0.machine_is) c.next.ensures.is c.statement-statement.ensures

pub returns : goal.returns
returns g c =
    let r = c.args.self.now in
    let i = c.self.inside in
    let h = subst (λ x. HasReached x i.machine) c.self.view_is c.self.invariant.0 in
    let s = c.statement-statement.result in
    let stands = stands_there i.machine i.loaded.now c.next.result s (ap (λ m. m.code) c.self.invariant.0.machine_is) c.next.ensures.is c.statement-statement.ensures in
    let running : (now r).state.world.stop ≡ None =
    sym (ap (λ m. m.state.world.stop) h.machine_is) ∙ sym (ap (λ w. w.stop) c.world.ensures.state) ∙ sym c.stop.ensures ∙ none_of c.stop.result (sym c.if-is_some.ensures) in
    let there : slice_get r.code.statements (now r).state.next ≡ Some s = subst (λ (m : Turner). slice_get m.code.statements m.state.next ≡ Some s) h.machine_is stands in
    loss_is r h.going running s there c.lost.result
    (subst (λ (m : Turner). MatchOption c.lost.result (is_lost m.part.bounds.home m.probes m.variable (turned_of m) s.op ≡ false)
    (λ e. (is_lost m.part.bounds.home m.probes m.variable (turned_of m) s.op ≡ true) × (e ≡ record { value = value_of m.state.world m.variable; number = m.state.next; line = s.line })))
    h.machine_is c.lost.ensures)
