-- Stepping by source lines.
use Rattle.std.specs.Prelude.{◌≡◌, ℕ, zero, suc, ◌+◌, ◌-◌, ◌<◌, nat_eq, ◌||◌, Bool, is_some, if◌then◌else◌}
use Rattle.vcm_debug.specs.Debugging.{Debugging, shown, now}
use Rattle.vcm_debug.specs.Halting.{effective}
use Rattle.vcm_debug.specs.Session.{line_of, at_count}

-- whether a session stands at a stop
abbrev pub is_stopped : Debugging → Bool
is_stopped d = is_some (now d).world.stop

-- the source line of the next statement
abbrev pub line_at : Debugging → ℕ
line_at d = line_of d.code (now d).next

-- one step further; at a stop it stays
abbrev pub stepped : Debugging → Debugging
stepped d = at_count d (d.count + effective 1 (shown d))

-- how many lines are wanted behind a step from a line to one: one less, where that is another
abbrev pub wanted_behind : (from to wanted : ℕ) → ℕ
wanted_behind from to wanted = if nat_eq to from then wanted else wanted - 1

-- whether the session stands where it was wanted, or at a stop
abbrev pub is_done : ℕ → Debugging → Bool
is_done wanted d = nat_eq wanted 0 || is_stopped d

-- the session where its next statement stands on another source line than the one before, so many times, or at a stop, behind so many steps at most
unfoldable pub over_from : ℕ → ℕ → Debugging → Debugging
over_from zero wanted d = d
over_from (suc n) wanted d = if is_done wanted d then d else over_from n (wanted_behind (line_at d) (line_at (stepped d)) wanted) (stepped d)

-- the session on the way there, behind fewer steps
abbrev pub IsOnWay : ℕ → Debugging → Debugging → Type 0
IsOnWay wanted old new = (done : ℕ) × (done < 1000000) × (new ≡ over_from done wanted old)
