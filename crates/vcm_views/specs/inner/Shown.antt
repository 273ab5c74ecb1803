-- What was written of a run with the values of variables.
use Rattle.std.specs.Prelude.{◌≡◌, ℕ, List, ◌++◌, Option}
use Rattle.std.specs.Io.KnownBytes.{Appends}
use Rattle.vcm_num.specs.Written.{AppendsFront}
use Rattle.vcm_state.specs.Held.{Held}
use Rattle.vcm_run.specs.Printed.{result_text}
use Rattle.vcm_values.specs.Values.{values_text}
use Rattle.vcm_job.specs.Jobs.{status_of}
use Rattle.vcm_job.specs.declared.fault.Fault.{Fault}
use Rattle.vcm_job.specs.declared.fault.InputRefusal.{InputRefusal}
use Rattle.vcm_job.specs.declared.fault.Fault.TheVariants as faults

-- the result, and the values behind it
abbrev pub shown_text : List ℕ → Held → ℕ → List ℕ
shown_text places held done = result_text held done ++ values_text held.tables held.state.variables places

-- it was written and nothing else, with this exit status
pub record IsShown (places : List ℕ) (held : Held) (done status : ℕ) (old new : Option (List ℕ)) : Type 0 where
  pub status_is : status ≡ status_of held.state.stop
  pub written : Appends old new (shown_text places held done)

-- a write failed, and a front of it was written, and not all of it
abbrev pub IsNotShown : List ℕ → Held → ℕ → Fault InputRefusal → Option (List ℕ) → Option (List ℕ) → Type 0
IsNotShown places held done (faults.Write d) old new = AppendsFront old new (shown_text places held done)
IsNotShown places held done _ old new = ⊥
