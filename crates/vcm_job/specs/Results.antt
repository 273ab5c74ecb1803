-- What a job answers.
use Rattle.std.specs.Prelude.{◌≡◌, ℕ, List, Option, Ok, Err, ◌⊎◌, IfSome}
use Rattle.std.specs.Io.KnownBytes.{Appends, Keeps}
use Rattle.vcm_num.specs.Written.{AppendsFront}
use Rattle.vcm_part.specs.declared.fault.PartCode.TheVariants as part_codes
use Rattle.vcm_part.specs.Faults.{fault}
use Rattle.vcm_part.specs.PartFile.{part_of}
use Rattle.vcm_spec.specs.Workpiece.{Workpiece}
use Rattle.vcm_spec.specs.Table.{steps}
use Rattle.vcm_program.specs.declared.accepted.Noticed.{Noticed}
use Rattle.vcm_program.specs.Program.{Parsed}
use Rattle.vcm_run.specs.declared.run.Refusal.{Refusal}
use Rattle.vcm_run.specs.declared.run.Refusal.TheVariants.{Part}
use Rattle.vcm_machine.specs.declared.ran.End.TheVariants as ends
use Rattle.vcm_run.specs.Programs.{IsRefusal}
use Rattle.vcm_run.specs.Run.{Ended}
use Rattle.vcm_job.specs.declared.fault.Fault.{Fault}
use Rattle.vcm_job.specs.Unanswered.{IsUnwritten}
use Rattle.vcm_job.specs.Jobs.{most_steps, job_setup, start_of, part_text, program_text, job_count, job_text, last_state, status_of, IsJob}

-- the run was refused memory after so many steps, where its next statement makes an output line and would not stop
pub record IsHalted (input : List ℕ) (done : ℕ) : Type 0 where
  pub part : Workpiece
  pub parsed : Parsed
  pub job : IsJob input part parsed
  pub halted : Ended (job_setup part parsed) most_steps (start_of part parsed) (steps (job_setup part parsed) done (start_of part parsed))
      done ends.NoMemory

-- what refuses a job: its part; or its program, where the part gives a workpiece; or memory was refused
abbrev pub IsJobRefusal : List ℕ → Refusal → Type 0
IsJobRefusal input (Part e) = (e ≡ fault part_codes.NoMemory 0) ⊎ (part_of (part_text input) ≡ Err e)
IsJobRefusal input r = ((part : Workpiece) × (part_of (part_text input) ≡ Ok part)) × IsRefusal (program_text input) r

-- the job's result was written and nothing else, and this is its status
pub record IsDone (input : List ℕ) (status : ℕ) (notices : List Noticed) (old new : Option (List ℕ)) : Type 0 where
  pub part : Workpiece
  pub parsed : Parsed
  pub job : IsJob input part parsed
  pub status_is : status ≡ status_of (last_state part parsed).world.stop
  pub notices_are : notices ≡ parsed.notices
  pub written : Appends old new (job_text part parsed)

-- a front of the job's result was written, and not all of it, after the effective steps of its run
pub record IsCutOff (input : List ℕ) (done : ℕ) (old new : Option (List ℕ)) : Type 0 where
  pub part : Workpiece
  pub parsed : Parsed
  pub job : IsJob input part parsed
  pub count : done ≡ job_count part parsed
  pub front : AppendsFront old new (job_text part parsed)

-- why no whole result was written: a failed write cut it off; or memory, the reader, its length or a refusal, and nothing was written
abbrev pub IsNotDone : Option (List ℕ) → Option (List ℕ) → Fault Refusal → Option (List ℕ) → Option (List ℕ) → Type 0
IsNotDone before after f old new =
    IsUnwritten IsJobRefusal (λ done old new. IfSome before (λ input. IsHalted input done) × Keeps old new)
    (λ done old new. IfSome before (λ input. IsCutOff input done old new)) before after f old new
