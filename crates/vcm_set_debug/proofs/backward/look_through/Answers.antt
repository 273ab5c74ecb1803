use Rattle.std.proofs.Common.{◌≡◌, true, refl, sym, ap, ◌∙◌, subst, arith}
use Rattle.vcm_set_debug.specs.Reached.{behind, goes, machine_at}
use Rattle.vcm_set_debug.specs.inner.Going.{ended}
use Rattle.vcm_set_debug.proofs.Looking.{farther_on, one_on}
use Rattle.vcm_set_debug.proofs.backward.look_through.Goals as goal

pub loop-done-init : goal.loop-done-init
loop-done-init g c = record { at = ap (behind c.args.course.now) c.requires.start; within = omega arith; found = refl; room = c.requires.before }

pub advance-requires-clause-few : goal.advance-requires-clause-few
advance-requires-clause-few g c =
    let n : c.loop-done.course.count ≡ c.loop-done.done = ap (λ r. r.count) c.loop-done.invariant.at in
    omega (arith, n, c.loop-done-test.true, c.ranges.most.fits)

pub advance-requires-clause-goes : goal.advance-requires-clause-goes
advance-requires-clause-goes g c = subst (λ r. goes r r.count ≡ true) (sym c.loop-done.invariant.at) (c.requires.goes c.loop-done.done c.loop-done-test.true)

pub loop-done-preserved : goal.loop-done-preserved
loop-done-preserved g c =
    let old = c.args.course.now in
    let before = c.loop-done.course in
    let now = c.advance.new.self in
    let there = farther_on old before now c.loop-done.done c.loop-done.invariant.at c.in-Ok.ensures.ok in
    let why = c.reason-why.ensures (machine_at before before.count) (λ t. c.deref.ensures.value ∙ c.note.ensures.noted t ∙ c.values.ensures.are) in
    record {
      at = there;
      within = omega (arith, c.loop-done-test.true);
      found =
          c.latest-found.ensures
          ∙ one_on c.args.breakpoints.now c.args.watches.now old before now c.loop-done.done c.reason-why.result (ended c.loop-done.found) c.loop-done.invariant.at there why
          c.loop-done.invariant.found;
      room = c.note.ensures.room ∙ c.loop-done.invariant.room;
    }
