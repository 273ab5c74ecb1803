use Rattle.std.proofs.Common.{◌≡◌, true, sym, ap, subst, arith}
use Rattle.vcm_set_debug.specs.Reached.{behind, goes}
use Rattle.vcm_set_debug.proofs.Looking.{farther_on}
use Rattle.vcm_set_debug.proofs.backward.go_on.Goals as goal

pub loop-done-init : goal.loop-done-init
loop-done-init g c = record { at = ap (behind c.args.course.now) c.requires.start; within = omega arith }

pub advance-requires-clause-few : goal.advance-requires-clause-few
advance-requires-clause-few g c =
    let n : c.loop-done.course.count ≡ c.loop-done.done = ap (λ r. r.count) c.loop-done.invariant.at in
    omega (arith, n, c.loop-done-test.true, c.ranges.count.fits)

pub advance-requires-clause-goes : goal.advance-requires-clause-goes
advance-requires-clause-goes g c = subst (λ r. goes r r.count ≡ true) (sym c.loop-done.invariant.at) (c.requires.goes c.loop-done.done c.loop-done-test.true)

pub loop-done-preserved : goal.loop-done-preserved
loop-done-preserved g c = record {
  at = farther_on c.args.course.now c.loop-done.course c.advance.new.self c.loop-done.done c.loop-done.invariant.at c.in-Ok.ensures.ok;
  within = omega (arith, c.loop-done-test.true);
}
