-- Statements about these definitions. Each is the contract of a law in src/laws.rt.
use Rattle.std.specs.Prelude.{◌≡◌, List, Bool, None}
use Rattle.std.specs.List.{AllByRecursion}
use Rattle.vcm_debug.specs.Debugging as debugging
use Rattle.vcm_turning.specs.Laws.{IsStill}
use Rattle.vcm_turning.specs.Steps.{turned_steps}
use Rattle.vcm_set_debug.specs.Reached.{Reached, now}

-- as long as each step was taken with the tip of the part file and left it where it stood, the state that is shown is that which a session without probes shows
abbrev pub FirstStepsAreDebugged : Type 0
FirstStepsAreDebugged =
    (r : Reached) (breakpoints watches : List Bool) → AllByRecursion (IsStill r.part r.probes) (turned_steps r.part r.probes r.variable r.code r.count)
    → (now r).ended ≡ None
    → (now r).state ≡ debugging.now (record { part = r.part; code = r.code; count = r.count; breakpoints = breakpoints; watches = watches })
