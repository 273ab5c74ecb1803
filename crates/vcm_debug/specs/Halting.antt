-- Where a run of the debugger ends, and why.
use Rattle.std.specs.Prelude.{◌≡◌, ℕ, zero, suc, ◌+◌, ◌<◌, ℤ, Bool, true, false, List, [], ◌∷◌, Option, Some, None, slice_get}
use Rattle.std.specs.Prelude.{if◌then◌else◌}
use Rattle.std.specs.List.{list_any}
use Rattle.std.specs.Ordering.{int_eq}
use Rattle.vcm_spec.specs.declared.stop.StopPlace.{StopPlace}
use Rattle.vcm_code.specs.CodeTable.{code_effective}
use Rattle.vcm_machine.specs.Running.{Running, setup, later}
use Rattle.vcm_console.specs.declared.reply.Reason.{Reason}
use Rattle.vcm_console.specs.declared.reply.Reason.TheVariants.{Stopped, Break, Watch, Count}

-- the lowest-numbered variable from `index` on that has a watch and whose value differs
abbrev pub changed_from : ℕ → List Bool → List ℤ → List ℤ → Option ℕ
changed_from index [] before now = None
changed_from index (w ∷ ws) [] now = None
changed_from index (w ∷ ws) (b ∷ bs) [] = None
changed_from index (true ∷ ws) (b ∷ bs) (n ∷ ns) = if int_eq b n then changed_from (index + 1) ws bs ns else Some index
changed_from index (false ∷ ws) (b ∷ bs) (n ∷ ns) = changed_from (index + 1) ws bs ns

-- a variable is watched
abbrev pub some_watched : List Bool → Bool
some_watched watches = list_any (λ w. w) watches

-- a watched variable that has changed is a reason to end
abbrev pub watch_reason : Option ℕ → Option Reason
watch_reason None = None
watch_reason (Some v) = Some (Watch v)

-- a breakpoint at the next statement is a reason before any other
abbrev pub break_reason : Option Bool → Option Reason → Option Reason
break_reason (Some true) other = Some Break
break_reason (Some false) other = other
break_reason None other = other

-- a stop is a reason before any other
abbrev pub stop_reason : Option StopPlace → Option Reason → Option Reason
stop_reason (Some p) other = Some Stopped
stop_reason None other = other

-- why a run ends at the machine `now`, one step after `before`, if it does: the first that applies of a stop, a breakpoint at the next
-- statement, and a watched variable whose value differs
abbrev pub reason : List Bool → List Bool → Running → Running → Option Reason
reason breakpoints watches before now =
    stop_reason now.state.world.stop
    (break_reason (slice_get breakpoints now.state.next)
    (watch_reason (changed_from 0 watches before.state.world.variables now.state.world.variables)))

-- why a run from the machine `start` ends after j + 1 steps, if it does
abbrev pub reason_after : List Bool → List Bool → Running → ℕ → Option Reason
reason_after breakpoints watches start j = reason breakpoints watches (later j start) (later (suc j) start)

-- why a run of at most k steps ends after j: for the reason found there, or, with none found, because j is k
abbrev pub EndsBy : ℕ → ℕ → Option Reason → Reason → Type 0
EndsBy k j (Some found) why = why ≡ found
EndsBy k j None why = (j ≡ k) × (why ≡ Count)

-- A run of at most k steps from the machine `start` ends after j + 1 of them: this is the least number of steps after which there is a
-- reason, or there is none, and all k are taken
pub record RunEnds (breakpoints watches : List Bool) (start : Running) (k j : ℕ) (why : Reason) : Type 0 where
  pub within : j < k
  pub none_earlier : (i : ℕ) → i < j → reason_after breakpoints watches start i ≡ None
  pub ends : EndsBy k (suc j) (reason_after breakpoints watches start j) why

-- after how many steps a run ends, and why
pub record RunEnd : Type 0 where
  pub steps : ℕ
  pub why : Reason

-- a run that ends after j steps for this reason
abbrev pub ends_after : ℕ → Reason → RunEnd
ends_after j why = record { steps = j; why = why }

-- the same, computed: at most k more steps from the machine `now`, after `done` of them
abbrev pub run_end : List Bool → List Bool → ℕ → ℕ → Running → RunEnd
run_end breakpoints watches zero done now = ends_after done Count
run_end breakpoints watches (suc k) done now =
    elim (reason breakpoints watches now (later 1 now)) [
      | Some why ↦ ends_after (suc done) why
      | None ↦ run_end breakpoints watches k (suc done) (later 1 now)
    ]

-- the last of the first k steps from the machine `start` after which a run would have ended, and why
abbrev pub last_end : List Bool → List Bool → Running → ℕ → Option RunEnd
last_end breakpoints watches start zero = None
last_end breakpoints watches start (suc k) =
    elim (reason_after breakpoints watches start k) [
      | Some why ↦ Some (ends_after (suc k) why)
      | None ↦ last_end breakpoints watches start k
    ]

-- behind none of the first k steps from the machine `start` a run would have ended
abbrev pub HasNoEnd : List Bool → List Bool → Running → ℕ → Type 0
HasNoEnd breakpoints watches start k = (i : ℕ) → i < k → reason_after breakpoints watches start i ≡ None

-- of the first k steps from the machine `start`, the one behind j others is the last after which a run would have ended, and this is why
pub record IsLastEnd (breakpoints watches : List Bool) (start : Running) (k j : ℕ) (why : Reason) : Type 0 where
  pub within : j < k
  pub found : reason_after breakpoints watches start j ≡ Some why
  pub none_later : (i : ℕ) → j < i → i < k → reason_after breakpoints watches start i ≡ None

-- running back over the first k steps from the machine `start` ends so: at the last of these ends, or there is none
abbrev pub EndsLast : List Bool → List Bool → Running → ℕ → Option RunEnd → Type 0
EndsLast breakpoints watches start k None = HasNoEnd breakpoints watches start k
EndsLast breakpoints watches start k (Some e) = (j : ℕ) × (e.steps ≡ suc j) × IsLastEnd breakpoints watches start k j e.why

-- how many of k steps are taken at a machine that has not stopped
abbrev pub effective : ℕ → Running → ℕ
effective k m = code_effective (setup m) m.code.statements k m.state
