-- The steps of a run and of a job.
use Rattle.std.specs.Prelude.{◌≡◌, ℕ, List, Option, Ok}
use Rattle.std.specs.Io.KnownBytes.{Appends, Keeps}
use Rattle.vcm_num.specs.Written.{AppendsFront}
use Rattle.vcm_part.specs.PartFile.{part_of}
use Rattle.vcm_spec.specs.Workpiece.{Workpiece}
use Rattle.vcm_program.specs.declared.accepted.Noticed.{Noticed}
use Rattle.vcm_program.specs.Program.{Parsed}
use Rattle.vcm_machine.specs.declared.ran.End.TheVariants as ends
use Rattle.vcm_run.specs.declared.run.Refusal.{Refusal}
use Rattle.vcm_run.specs.Programs.{IsSummary}
use Rattle.vcm_run.specs.Summaries.{Shown}
use Rattle.vcm_run.specs.Printed.{result_text}
use Rattle.vcm_job.specs.declared.fault.Fault.{Fault}
use Rattle.vcm_job.specs.declared.fault.InputRefusal.{InputRefusal}
use Rattle.vcm_job.specs.declared.running.Unwritten.{Unwritten}
use Rattle.vcm_job.specs.declared.running.Unwritten.TheVariants as unwritten
use Rattle.vcm_job.specs.Inputs.{IsInputRefusal, IsHaltedRun, IsRunCutOff}
use Rattle.vcm_job.specs.Jobs.{part_text, program_text, job_count, job_text, last_state, status_of, IsJob}
use Rattle.vcm_job.specs.Results.{IsHalted, IsJobRefusal, IsCutOff}
use Rattle.vcm_job.specs.inner.Judged.{IsCutAs}

-- the result of a run was written and nothing else, and this is its status; the run wasn't refused memory
pub record IsShown (s : Shown) (status : ℕ) (notices : List Noticed) (old new : Option (List ℕ)) : Type 0 where
  pub ample : s.ran.end ≡ ends.NoMemory → ⊥
  pub status_is : status ≡ status_of s.held.state.stop
  pub notices_are : notices ≡ s.notices
  pub written : Appends old new (result_text s.held s.ran.done)

-- a run was refused memory after so many steps
pub record IsShort (s : Shown) (done : ℕ) : Type 0 where
  pub halted : s.ran.end ≡ ends.NoMemory
  pub count : done ≡ s.ran.done

-- a front of the result of a run was written, and not all of it, after so many steps
pub record IsShownInPart (s : Shown) (done : ℕ) (old new : Option (List ℕ)) : Type 0 where
  pub ample : s.ran.end ≡ ends.NoMemory → ⊥
  pub count : done ≡ s.ran.done
  pub front : AppendsFront old new (result_text s.held s.ran.done)

-- why no whole result of a run was written: it was refused memory, and nothing was written; or a failed write cut it off
abbrev pub IsNotShown : Shown → Unwritten → Option (List ℕ) → Option (List ℕ) → Type 0
IsNotShown s (unwritten.Memory done) old new = IsShort s done × Keeps old new
IsNotShown s (unwritten.Write done) old new = IsShownInPart s done old new

-- why the run of an input wrote no whole result: a failed write cut it off; or memory or a refusal, and nothing was written
abbrev pub IsNotRun : Workpiece → List ℕ → ℕ → Fault InputRefusal → Option (List ℕ) → Option (List ℕ) → Type 0
IsNotRun part input n f old new =
    IsCutAs (IsInputRefusal input) (λ done old new. IsHaltedRun part input n done × Keeps old new) (IsRunCutOff part input n) f old new

-- the part text of an input gives a workpiece, and this is a run of its program text for n steps
pub record IsTextsRun (input : List ℕ) (n : ℕ) (s : Shown) : Type 0 where
  pub part : Workpiece
  pub part_is : part_of (part_text input) ≡ Ok part
  pub run : IsSummary part (program_text input) n s

-- the summary shows the last state of the job's program, after its effective steps
pub record IsJobRun (input : List ℕ) (s : Shown) : Type 0 where
  pub part : Workpiece
  pub parsed : Parsed
  pub job : IsJob input part parsed
  pub notices : s.notices ≡ parsed.notices
  pub count : s.ran.done ≡ job_count part parsed
  pub text : result_text s.held s.ran.done ≡ job_text part parsed
  pub stop : s.held.state.stop ≡ (last_state part parsed).world.stop

-- why a job wrote no whole result: a failed write cut it off; or memory or a refusal, and nothing was written
abbrev pub IsNoJob : List ℕ → Fault Refusal → Option (List ℕ) → Option (List ℕ) → Type 0
IsNoJob input f old new = IsCutAs (IsJobRefusal input) (λ done old new. IsHalted input done × Keeps old new) (IsCutOff input) f old new
