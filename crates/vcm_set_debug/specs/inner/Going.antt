-- What the parts of a session with several probes are to be, and how its run goes on.
use Rattle.std.specs.Prelude.{◌≡◌, ℕ, ◌+◌, ◌<◌, ◌≤◌, ℤ, Bool, true, List, length, Option, Some, None, Result, Ok, Err}
use Rattle.vcm_image.specs.Whole.{FitsImage}
use Rattle.vcm_machine.specs.Running.{WantsMemory}
use Rattle.vcm_console.specs.declared.reply.Reason.{Reason}
use Rattle.vcm_debug.specs.Halting.{RunEnd, ends_after}
use Rattle.vcm_turning.specs.Machine.{Turner}
use Rattle.vcm_set_debug.specs.declared.backward.Ending.{Ending}
use Rattle.vcm_set_debug.specs.Reached.{Reached, behind, now, machine_at, goes}
use Rattle.vcm_set_debug.specs.Halting.{reason_from, steps_taken, first_end}

-- the machine of a run that stands so
abbrev pub turner_of : Reached → Turner
turner_of r = record { part = r.part; probes = r.probes; variable = r.variable; code = r.code; state = (now r).state; on = (now r).on }

-- a machine has come so far, and each step on its way was taken
pub record HasReached (r : Reached) (m : Turner) : Type 0 where
  pub machine_is : m ≡ turner_of r
  pub going : (now r).ended ≡ None
  pub taken : (i : ℕ) → i < r.count → goes r i ≡ true

-- there is a flag for each statement, and a flag and room for a value for each variable; and the code is that of an image
pub record HasRoom (r : Reached) (breakpoints watches : List Bool) (before : List ℤ) : Type 0 where
  pub statements : length breakpoints ≡ length r.code.statements
  pub variables : length watches ≡ length r.code.tables.variables
  pub room : length before ≡ length r.code.tables.variables
  pub fits : FitsImage r.code

-- k steps were taken, or fewer, to the one behind which none is; or memory was refused after `done` steps
abbrev pub HasStepped : ℕ → Reached → Reached → Result ℕ ℕ → Type 0
HasStepped k old new (Ok done) = (new ≡ behind old (old.count + done)) × (done ≡ steps_taken old k) × (done ≤ k)
HasStepped k old new (Err done) = (new ≡ behind old (old.count + done)) × (done < k) × WantsMemory (machine_at old (old.count + done))

-- a run of at most k steps has come to its end, or was refused memory after `done` steps, of which none ends it
abbrev pub HasRun : List Bool → List Bool → ℕ → Reached → Reached → Result (ℕ × Reason) ℕ → Type 0
HasRun breakpoints watches k old new (Ok ended) =
    (new ≡ behind old (old.count + ended.0)) × (ends_after ended.0 ended.1 ≡ first_end (reason_from breakpoints watches old) k 0) × (ended.0 ≤ k)
HasRun breakpoints watches k old new (Err done) =
    (new ≡ behind old (old.count + done)) × (done < k) × WantsMemory (machine_at old (old.count + done))
    × ((i : ℕ) → i < done → reason_from breakpoints watches old i ≡ None)

-- the end of a run that was found, if one was
abbrev pub ended : Option Ending → Option RunEnd
ended None = None
ended (Some e) = Some (ends_after e.steps e.why)
