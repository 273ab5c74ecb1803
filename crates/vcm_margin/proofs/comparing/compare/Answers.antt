use Rattle.std.proofs.Common.{refl, ap, ◌∙◌}
use Rattle.vcm_margin.proofs.Reached.{later_next}
use Rattle.vcm_margin.proofs.Together.{differs}
use Rattle.vcm_margin.proofs.comparing.compare.Goals as goal

pub returns-in-Some-clause-differ : goal.returns-in-Some-clause-differ
returns-in-Some-clause-differ g c = λ part at_start.
    let gone = c.loop-step.invariant.1 part at_start in
    let test = c.loop-step-test.true in
    differs part c.args.other.now.part c.args.loaded.now c.loop-step.step _ _ _ gone c.in_ok-what.ensures.moved c.args.steps test _
    (rw c.in-Some.is at (c.in_ok-what.ensures.differ part c.args.other.now.part c.args.steps c.loop-step.step test gone)) refl
    (c.position-position.ensures ∙ ap (λ w. w.position) c.world.ensures.state)

pub loop-step-preserved : goal.loop-step-preserved
loop-step-preserved g c = (
  later_next c.args.other.now.part c.args.loaded.now c.loop-step.step _ _ c.loop-step.invariant.0 c.in_ok-what.ensures.moved,
  λ part at_start. let gone = c.loop-step.invariant.1 part at_start in
      rw c.in-None.is at (c.in_ok-what.ensures.gone part c.args.other.now.part c.args.steps c.loop-step.step c.loop-step-test.true gone),
)
