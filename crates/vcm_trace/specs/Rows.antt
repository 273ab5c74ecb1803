-- A text that tells a run row by row.
use Rattle.std.specs.Prelude.{◌≡◌, ℕ, zero, suc, ◌<◌, ◌≤◌, ◌==◌, List, [], ◌++◌, length, flat_map, slice_get, Option, Some, None, if◌then◌else◌}
use Rattle.std.specs.Io.KnownBytes.{Appends, Keeps}
use Rattle.vcm_num.specs.Written.{AppendsFront}
use Rattle.vcm_spec.specs.declared.stop.StopPlace.{StopPlace}
use Rattle.vcm_spec.specs.Workpiece.{Workpiece}
use Rattle.vcm_spec.specs.Setup.{Tables}
use Rattle.vcm_spec.specs.World.{World}
use Rattle.vcm_code.specs.declared.code.Code.{Code}
use Rattle.vcm_code.specs.CodeTable.{CodeState}
use Rattle.vcm_code.specs.Code.{CodeStatement}
use Rattle.vcm_machine.specs.declared.ran.End.TheVariants.{NoMemory}
use Rattle.vcm_machine.specs.Running.{started, later, RunEnded}
use Rattle.vcm_steps.specs.Passages.{state_after, steps_taken, passages}
use Rattle.vcm_steps.specs.declared.fault.Unfinished.{Unfinished}
use Rattle.vcm_steps.specs.declared.fault.Unfinished.TheVariants as faults
use Rattle.vcm_trace.specs.Framed.{FramedStep, no_frames, framed}

-- what stands before the steps, the row of a step with the frames in which features were declared before it, and what stands after them where the run has not stopped: after so many steps, before the statement with
-- this number and source line
pub record RunRows : Type 0 where
  pub before : List ℕ
  pub row : Tables → FramedStep → List ℕ
  pub after : (count next line : ℕ) → World → List ℕ

-- the first so many steps, each with those frames
abbrev pub framed_steps : Workpiece → Code → ℕ → List FramedStep
framed_steps part c k = framed (no_frames c.tables) (passages part c k)

-- what stands there of them
abbrev pub rows_front : RunRows → Workpiece → Code → ℕ → List ℕ
rows_front t part c k = t.before ++ flat_map (t.row c.tables) (framed_steps part c k)

-- what stands at a state in which the run has not stopped, after so many steps, before this statement
abbrev pub open_row : RunRows → ℕ → CodeState → Option CodeStatement → List ℕ
open_row t count m None = []
open_row t count m (Some s) = t.after count m.next s.line m.world

-- what stands after so many steps, if it has not stopped
abbrev pub last_row : RunRows → Code → ℕ → CodeState → Option StopPlace → List ℕ
last_row t c count m (Some p) = []
last_row t c count m None = open_row t count m (slice_get c.statements m.next)

-- all that is told of a run for at most n steps
abbrev pub rows_text : RunRows → Workpiece → Code → ℕ → List ℕ
rows_text t part c n = rows_front t part c n ++ last_row t c (steps_taken part c n) (state_after part c n) (state_after part c n).world.stop

-- it was written and nothing else, and the run came to this stop, if it came to one
pub record IsWritten (t : RunRows) (part : Workpiece) (c : Code) (n : ℕ) (stop : Option StopPlace) (old new : Option (List ℕ)) : Type 0 where
  pub stop_is : stop ≡ (state_after part c n).world.stop
  pub written : Appends old new (rows_text t part c n)

-- memory was refused after so many steps of a run for n, at a statement that makes an output line and would not stop; what stands there of these steps was
-- written
pub record IsHalted (t : RunRows) (part : Workpiece) (c : Code) (n done : ℕ) (old new : Option (List ℕ)) : Type 0 where
  pub halted : RunEnded n (started part c) (later done (started part c)) done NoMemory
  pub written : Appends old new (rows_front t part c done)

-- what is written before the row of the last of so many steps: nothing before the first row of all
abbrev pub written_before : RunRows → Workpiece → Code → ℕ → List ℕ
written_before t part c zero = []
written_before t part c (suc k) = rows_front t part c k

-- what is written with it: after n steps all
abbrev pub written_with : RunRows → Workpiece → Code → ℕ → ℕ → List ℕ
written_with t part c n done = if done == n then rows_text t part c n else rows_front t part c done

-- a write failed after so many steps: a front was written and not all, up to somewhere in the row of the last of these steps, after n steps also in what
-- stands behind it
pub record IsCutOff (t : RunRows) (part : Workpiece) (c : Code) (n done : ℕ) (old new : Option (List ℕ)) : Type 0 where
  pub taken : done ≤ steps_taken part c n
  pub front : AppendsFront old new (rows_text t part c n)
  pub begun : length (written_before t part c done) ≤ front.0
  pub unfinished : front.0 < length (written_with t part c n done)

-- why it wasn't written to its end: memory was refused before the run, and nothing was written; or in it; or a write failed
abbrev pub IsNotWritten : RunRows → Workpiece → Code → ℕ → Unfinished → Option (List ℕ) → Option (List ℕ) → Type 0
IsNotWritten t part c n faults.NoMemory old new = Keeps old new
IsNotWritten t part c n (faults.Memory done) old new = IsHalted t part c n done old new
IsNotWritten t part c n (faults.Write done) old new = IsCutOff t part c n done old new
