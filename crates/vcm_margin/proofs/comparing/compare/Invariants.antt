use Rattle.std.proofs.Common.{◌≡◌}
use Rattle.vcm_spec.specs.Workpiece.{Workpiece}
use Rattle.vcm_machine.specs.Running.{started, later}
use Rattle.vcm_margin.specs.inner.Stepped.{HaveGone}
use Rattle.vcm_margin.proofs.comparing.compare.Given as goal

abbrev pub invariant-loop-step : goal.invariant-loop-step
invariant-loop-step g l =
    (l.other ≡ later l.step (started l.fn.other.part l.loaded))
    × ((part : Workpiece) → g.O.OwnRun.at l.fn.own part l.loaded l.steps 0 → HaveGone part l.fn.other.part l.loaded l.step (λ j. g.O.OwnRun.at l.own part l.loaded l.steps j) l.other)
