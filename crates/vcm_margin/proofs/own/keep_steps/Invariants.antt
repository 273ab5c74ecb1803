use Rattle.vcm_margin.specs.inner.Keeping.{IsKeeping}
use Rattle.vcm_margin.proofs.own.keep_steps.Given as goal

abbrev pub invariant-loop : goal.invariant-loop
invariant-loop g l = IsKeeping l.fn.machine.part l.loaded l.counter l.machine l.trail.nexts.items l.trail.points.items l.trail.running l.trail.stop
