use Rattle.std.proofs.Common.{◌≡◌, ◌≤◌, ◌-◌, length, take}
use Rattle.vcm_program.proofs.tables.names_of.Given as goal

abbrev pub invariant-loop-name : goal.invariant-loop-name
invariant-loop-name l = record {
  done : l.names ≡ take l.index l.titles;
  within : l.index ≤ length l.titles;
}

abbrev pub decreases-loop-name : goal.decreases-loop-name
decreases-loop-name l = length l.titles - l.index
