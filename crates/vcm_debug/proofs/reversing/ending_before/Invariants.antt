use Rattle.std.proofs.Common.{◌≡◌, ◌-◌, ◌≤◌, length}
use Rattle.vcm_machine.specs.Running.{started}
use Rattle.vcm_debug.specs.Halting.{last_end}
use Rattle.vcm_debug.proofs.reversing.ending_before.Given as goal

abbrev pub invariant-loop-high : goal.invariant-loop-high
invariant-loop-high g l = record {
  left : last_end l.breakpoints l.watches (started (g.P.Part.part l.part) l.loaded) (l.count - 1)
      ≡ last_end l.breakpoints l.watches (started (g.P.Part.part l.part) l.loaded) (l.high - 1);
  few : l.high ≤ l.count;
  room : length l.before.items ≡ length l.loaded.tables.variables;
}

abbrev pub decreases-loop-high : goal.decreases-loop-high
decreases-loop-high g l = l.high
