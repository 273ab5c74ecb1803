-- Statements about these definitions. Each is the contract of a law in src/laws.rt.
use Rattle.std.specs.Prelude.{◌≡◌, ℕ, suc, ◌+◌, ◌<◌, Bool, List, Option}
use Rattle.vcm_machine.specs.Running.{Running, later}
use Rattle.vcm_debug.specs.Halting.{RunEnd, ends_after, run_end, RunEnds, last_end, IsLastEnd, EndsLast}
use Rattle.vcm_console.specs.declared.reply.Reason.{Reason}
use Rattle.vcm_console.specs.declared.reply.Reason.TheVariants.{Count}

-- the computed end of a run of at least one step is what the relation says, and nothing else is
abbrev pub RunEndIsComputed : Type 0
RunEndIsComputed =
    (breakpoints watches : List Bool) (start : Running) (k : ℕ) → 0 < k
    → (j : ℕ) × (why : Reason) × RunEnds breakpoints watches start k j why
    × (run_end breakpoints watches k 0 start ≡ ends_after (suc j) why)

-- where the relation holds of an end of a run, this is the computed one: no run has two ends
abbrev pub RunEndIsUnique : Type 0
RunEndIsUnique =
    (breakpoints watches : List Bool) (start : Running) (k j : ℕ) (why : Reason) → RunEnds breakpoints watches start k j why
    → ends_after (suc j) why ≡ run_end breakpoints watches k 0 start

-- the computed end of running back is the last, and nothing else is
abbrev pub LastEndIsComputed : Type 0
LastEndIsComputed =
    (breakpoints watches : List Bool) (start : Running) (k : ℕ) → EndsLast breakpoints watches start k (last_end breakpoints watches start k)

-- where the relation holds of an end of running back, this is the computed one
abbrev pub LastEndIsUnique : Type 0
LastEndIsUnique =
    (breakpoints watches : List Bool) (start : Running) (k : ℕ) (e : Option RunEnd) → EndsLast breakpoints watches start k e
    → e ≡ last_end breakpoints watches start k

-- from where running back over k steps ended, a run of as many steps as lead behind these meets no reason
abbrev pub RunsOnToWhereItWas : Type 0
RunsOnToWhereItWas =
    (breakpoints watches : List Bool) (start : Running) (k j : ℕ) (why : Reason) → IsLastEnd breakpoints watches start k j why → (m : ℕ) → 0 < m
    → suc (j + m) ≡ k → run_end breakpoints watches m 0 (later (suc j) start) ≡ ends_after m Count
