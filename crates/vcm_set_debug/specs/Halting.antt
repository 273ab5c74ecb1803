-- Where a run of the debugger with several probes ends, and why.
use Rattle.std.specs.Prelude.{ℕ, zero, suc, ◌+◌, Bool, List, Option, Some, None, if◌then◌else◌}
use Rattle.vcm_console.specs.declared.reply.Reason.{Reason}
use Rattle.vcm_console.specs.declared.reply.Reason.TheVariants.{Stopped, Count}
use Rattle.vcm_debug.specs.Halting.{RunEnd, ends_after, reason}
use Rattle.vcm_turning.specs.declared.ended.NoProbe.{NoProbe}
use Rattle.vcm_set_debug.specs.Reached.{Reached, machine_at, lost, goes}

-- that the run ends without a probe is a reason before any other: it goes no farther there, as at a stop
abbrev pub lost_reason : Option NoProbe → Option Reason → Option Reason
lost_reason (Some l) other = Some Stopped
lost_reason None other = other

-- why a run of the debugger ends behind one step more than n, if it does: there the run ends without a probe, or what ends any run of the debugger applies
abbrev pub reason_behind : List Bool → List Bool → Reached → ℕ → Option Reason
reason_behind breakpoints watches r n =
    lost_reason (lost r (suc n)) (reason breakpoints watches (machine_at r n) (machine_at r (suc n)))

-- the same behind one step more than i from where the run stands
abbrev pub reason_from : List Bool → List Bool → Reached → ℕ → Option Reason
reason_from breakpoints watches r i = reason_behind breakpoints watches r (r.count + i)

-- whether another step is taken behind i from where the run stands
abbrev pub goes_from : Reached → ℕ → Bool
goes_from r i = goes r (r.count + i)

-- how many of k more steps are taken, behind `done` of them
abbrev pub taken_of : (ℕ → Bool) → ℕ → ℕ → ℕ
taken_of goes zero done = done
taken_of goes (suc k) done = if goes done then taken_of goes k (suc done) else done

-- how many of k steps are taken from where the run stands
abbrev pub steps_taken : Reached → ℕ → ℕ
steps_taken r k = taken_of (goes_from r) k 0

-- at most k more steps, behind `done` of them: after how many there is a reason first, and which, or all are taken
abbrev pub first_end : (ℕ → Option Reason) → ℕ → ℕ → RunEnd
first_end why zero done = ends_after done Count
first_end why (suc k) done = elim (why done) [ Some w ↦ ends_after (suc done) w | None ↦ first_end why k (suc done) ]

-- the last of the first k steps behind which there is a reason, and which
abbrev pub last_end : (ℕ → Option Reason) → ℕ → Option RunEnd
last_end why zero = None
last_end why (suc k) = elim (why k) [ Some w ↦ Some (ends_after (suc k) w) | None ↦ last_end why k ]
