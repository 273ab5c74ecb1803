-- What a run comes to.
use Rattle.std.specs.Prelude.{◌≡◌, ℕ}
use Rattle.vcm_spec.specs.Workpiece.{Workpiece}
use Rattle.vcm_code.specs.declared.code.Code.{Code}
use Rattle.vcm_machine.specs.declared.ran.End.TheVariants as ends
use Rattle.vcm_machine.specs.Running.{started, later, RunEnded}
use Rattle.vcm_steps.specs.declared.fault.Unfinished.{Unfinished}
use Rattle.vcm_steps.specs.declared.fault.Unfinished.TheVariants.{NoMemory, Memory, Write}
use Rattle.vcm_steps.specs.Passages.{state_after, steps_taken}
use Rattle.vcm_trace.specs.Rows.{framed_steps}
use Rattle.vcm_summary.specs.declared.summary.Summary.{Summary}
use Rattle.vcm_summary.specs.Findings.{found_in}

-- this is what a run of at most n steps comes to, where points are looked for from a source line on
pub record IsSummed (part : Workpiece) (c : Code) (n from : ℕ) (x : Summary) : Type 0 where
  pub stop : x.stop ≡ (state_after part c n).world.stop
  pub done : x.done ≡ steps_taken part c n
  pub findings : x.findings ≡ found_in from (framed_steps part c n)

-- memory was refused before such a run, or after so many of its steps, to a statement that makes an output line
abbrev pub IsNotSummed : Workpiece → Code → ℕ → Unfinished → Type 0
IsNotSummed part c n NoMemory = Unit {0}
IsNotSummed part c n (Memory done) = RunEnded n (started part c) (later done (started part c)) done ends.NoMemory
IsNotSummed part c n (Write done) = ⊥
