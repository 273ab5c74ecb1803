-- What was counted in a run that turns its head.
use Rattle.std.specs.Prelude.{◌≡◌, ℕ, List, map}
use Rattle.vcm_spec.specs.Workpiece.{Workpiece}
use Rattle.vcm_code.specs.declared.code.Code.{Code}
use Rattle.vcm_remarks.specs.declared.remark.NumberedRemark.{NumberedRemark}
use Rattle.vcm_steps.specs.Passages.{Passage}
use Rattle.vcm_probe_set.specs.Probes.{Probe}
use Rattle.vcm_turning.specs.declared.ended.Ended.{Ended}
use Rattle.vcm_turning.specs.Machine.{TurningEnded}
use Rattle.vcm_turning.specs.Steps.{TurnedStep, turned_steps}
use Rattle.vcm_untried.specs.declared.counting.Counts.{Counts}
use Rattle.vcm_untried.specs.Times.{remark_times}
use Rattle.vcm_untried.specs.Telling.{shown, told_of}

-- the passages of the code in steps of such a run
abbrev pub passages_of : List TurnedStep → List Passage
passages_of ss = map (λ s. s.passage) ss

-- these are the counts of a run of at most n steps with these probes, one of which the variable of this place chooses: it did so many and ended so; how often the
-- statement of each remark was taken, in the order of the remarks, and what is reported of the steps
pub record AreCountedTurned (part : Workpiece) (ps : List Probe) (variable : ℕ) (c : Code) (n : ℕ) (remarks : List NumberedRemark) (x : Counts) : Type 0 where
  pub done : ℕ
  pub end : Ended
  pub ended : TurningEnded n part ps variable c done end
  pub taken : x.taken.items ≡ remark_times (passages_of (turned_steps part ps variable c done)) remarks
  pub told : shown x.told ≡ told_of remarks (passages_of (turned_steps part ps variable c done))
