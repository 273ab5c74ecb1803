-- What the parts of a session are to be, and how its machine goes on.
use Rattle.std.specs.Prelude.{◌≡◌, ℕ, ◌<◌, ◌≤◌, ℤ, Bool, List, length, None, Result, Ok, Err}
use Rattle.vcm_spec.specs.Workpiece.{Workpiece}
use Rattle.vcm_code.specs.declared.code.Code.{Code}
use Rattle.vcm_image.specs.Whole.{FitsImage}
use Rattle.vcm_machine.specs.Running.{Running, started, later, WantsMemory}
use Rattle.vcm_console.specs.declared.reply.Reason.{Reason}
use Rattle.vcm_debug.specs.Debugging.{after}
use Rattle.vcm_debug.specs.Halting.{reason_after, ends_after, run_end, effective}

-- the machine has come to the count, there is a flag for each statement, and a flag and room for a value for each variable; and the code is
-- that of an image
pub record IsSession (part : Workpiece) (code : Code) (machine : Running) (count : ℕ) (breakpoints watches : List Bool) (before : List ℤ)
    : Type 0 where
  pub reached : machine ≡ after part code count
  pub statements : length breakpoints ≡ length code.statements
  pub variables : length watches ≡ length code.tables.variables
  pub room : length before ≡ length code.tables.variables
  pub fits : FitsImage code

-- the machine of the same workpiece and code, n steps after the start
abbrev pub begun : Running → ℕ → Running
begun m n = later n (started m.part m.code)

-- a run of at most k steps was refused memory after `done` steps, of which none ends it
pub record IsHaltedRun (breakpoints watches : List Bool) (k : ℕ) (old new : Running) (done : ℕ) : Type 0 where
  pub new_is : new ≡ later done old
  pub within : done < k
  pub none_ends : (i : ℕ) → i < done → reason_after breakpoints watches old i ≡ None
  pub wants : WantsMemory new

-- a run of at most k steps has come to its end, or was refused memory
abbrev pub HasRun : List Bool → List Bool → ℕ → Running → Running → Result (ℕ × Reason) ℕ → Type 0
HasRun breakpoints watches k old new (Ok ended) =
    (new ≡ later ended.0 old) × (ends_after ended.0 ended.1 ≡ run_end breakpoints watches k 0 old) × (ended.0 ≤ k)
HasRun breakpoints watches k old new (Err done) = IsHaltedRun breakpoints watches k old new done

-- k steps were taken, or fewer, to the one that stopped; or memory was refused after `done` steps, of which none stops
abbrev pub HasStepped : ℕ → Running → Running → Result ℕ ℕ → Type 0
HasStepped k old new (Ok done) = (new ≡ later done old) × (done ≡ effective k old) × (done ≤ k)
HasStepped k old new (Err done) = (new ≡ later done old) × (done < k) × WantsMemory new
