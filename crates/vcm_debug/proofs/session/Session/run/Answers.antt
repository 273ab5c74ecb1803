use Rattle.std.proofs.Common.{◌≡◌, ◌<◌, ◌+◌, ◌^◌, ap, subst, rules, arith}
use Rattle.std.specs.Prelude.{All}
use Rattle.vcm_debug.specs.inner.Going.{begun}
use Rattle.vcm_debug.proofs.Sessions.{moved_on, run_halts}
use Rattle.vcm_debug.proofs.session.Session.run.Goals as goal

pub overflow_add-self : goal.overflow_add-self
overflow_add-self g c =
    let x : c.self.inside.count ≡ c.args.self.now.count = ap (λ d. d.count) c.self.view_is in
    let small : c.self.inside.count + c.from.result < 2 ^ 64 = omega (arith, x, c.requires, c.in-Ok.ensures.run.2, c.from.ensures) in
    search rules

pub invariant_of-self : goal.invariant_of-self
invariant_of-self g c =
    let i = c.self.inside in
    let s = c.self.invariant.0 in
    rw c.from.ensures (
      moved_on (g.P.Part.part i.part.now) i.loaded.now i.machine c.run_on.new.machine i.count c.in-Ok.done i.breakpoints.items i.watches.items i.before.items
          c.run_on.new.before.items s c.in-Ok.ensures.run.0 c.in-Ok.ensures.room,
      subst (λ m. All (λ k. k.machine ≡ begun m k.count) c.run_on.new.checkpoints.kept.items) s.reached c.in-Ok.ensures.kept,
    )

pub invariant_of-self-in-Err : goal.invariant_of-self-in-Err
invariant_of-self-in-Err g c =
    let i = c.self.inside in
    let s = c.self.invariant.0 in
    rw c.from-in-Err.ensures (
      moved_on (g.P.Part.part i.part.now) i.loaded.now i.machine c.run_on.new.machine i.count c.in-Err.done i.breakpoints.items i.watches.items i.before.items
          c.run_on.new.before.items s c.in-Err.ensures.run.new_is c.in-Err.ensures.room,
      subst (λ m. All (λ k. k.machine ≡ begun m k.count) c.run_on.new.checkpoints.kept.items) s.reached c.in-Err.ensures.kept,
    )

pub returns-in-Err-clause-carried : goal.returns-in-Err-clause-carried
returns-in-Err-clause-carried g c =
    let i = c.self.inside in
    rw (c.from-in-Err.ensures, c.from-in-Err-2.ensures)
    (run_halts (g.P.Part.part i.part.now) i.loaded.now i.machine c.run_on.new.machine i.count c.args.k c.in-Err.done i.breakpoints.items i.watches.items c.args.self.now c.self.view_is
    c.self.invariant.0.reached (rw (c.deref.ensures.value, c.deref-2.ensures.value) at c.in-Err.ensures.run))
