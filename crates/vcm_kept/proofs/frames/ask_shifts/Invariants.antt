use Rattle.std.proofs.Common.{◌≡◌, ◌++◌, drop}
use Rattle.std.specs.List.{flat_map}
use Rattle.vcm_kept.specs.Guarding.{asks_shifts}
use Rattle.vcm_kept.proofs.frames.ask_shifts.Given as goal

abbrev pub invariant-loop-offset : goal.invariant-loop-offset
invariant-loop-offset l = record {
  left : l.out.items ++ flat_map (asks_shifts l.line l.names) (drop l.offset-index l.offsets) ≡ l.initial.out.items ++ flat_map (asks_shifts l.line l.names) l.offsets;
}
