-- Running back, a stretch of steps at a time.
use Rattle.std.specs.Prelude.{ℕ, zero, suc, ◌+◌, Bool, List, Option, Some, None}
use Rattle.vcm_machine.specs.Running.{Running}
use Rattle.vcm_debug.specs.declared.reversing.Ending.{Ending}
use Rattle.vcm_debug.specs.Halting.{RunEnd, ends_after, reason_after}

-- the end of a run that was found, if one was
abbrev pub ended : Option Ending → Option RunEnd
ended None = None
ended (Some e) = Some (ends_after e.steps e.why)

-- the last of the k steps behind the first `low` after which a run would have ended, and why
abbrev pub last_between : List Bool → List Bool → Running → ℕ → ℕ → Option RunEnd
last_between breakpoints watches start low zero = None
last_between breakpoints watches start low (suc k) =
    elim (reason_after breakpoints watches start (low + k)) [
      | Some why ↦ Some (ends_after (suc (low + k)) why)
      | None ↦ last_between breakpoints watches start low k
    ]

-- the first of two, if it is there, else the second
abbrev pub first_of : Option RunEnd → Option RunEnd → Option RunEnd
first_of (Some e) other = Some e
first_of None other = other
