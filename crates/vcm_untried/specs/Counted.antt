-- What was counted in a run, and why it wasn't.
use Rattle.std.specs.Prelude.{◌≡◌, ℕ, List}
use Rattle.vcm_spec.specs.Workpiece.{Workpiece}
use Rattle.vcm_code.specs.declared.code.Code.{Code}
use Rattle.vcm_machine.specs.declared.ran.End.TheVariants as ends
use Rattle.vcm_machine.specs.Running.{started, later, RunEnded}
use Rattle.vcm_remarks.specs.declared.remark.NumberedRemark.{NumberedRemark}
use Rattle.vcm_steps.specs.declared.fault.Unfinished.{Unfinished}
use Rattle.vcm_steps.specs.declared.fault.Unfinished.TheVariants.{NoMemory, Memory, Write}
use Rattle.vcm_steps.specs.Passages.{passages}
use Rattle.vcm_untried.specs.declared.counting.Counts.{Counts}
use Rattle.vcm_untried.specs.Times.{run_times}
use Rattle.vcm_untried.specs.Telling.{shown, told_of}

-- these are the counts of a run of at most n steps: how often the statement of each remark was taken, in the order of the remarks, and what is reported of the steps
pub record AreCounted (part : Workpiece) (c : Code) (n : ℕ) (remarks : List NumberedRemark) (x : Counts) : Type 0 where
  pub taken : x.taken.items ≡ run_times part c n remarks
  pub told : shown x.told ≡ told_of remarks (passages part c n)

-- memory was refused before such a run, in it or for what is counted; or after so many of its steps, to a statement that makes an output line
abbrev pub IsNotCounted : Workpiece → Code → ℕ → Unfinished → Type 0
IsNotCounted part c n NoMemory = Unit {0}
IsNotCounted part c n (Memory done) = RunEnded n (started part c) (later done (started part c)) done ends.NoMemory
IsNotCounted part c n (Write done) = ⊥
