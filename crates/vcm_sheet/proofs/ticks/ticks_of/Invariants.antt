use Rattle.std.proofs.Common.{◌≡◌, true}
use Rattle.std.specs.List.{AllByRecursion}
use Rattle.vcm_sheet.specs.Ticks.{is_tick, ticks_before}
use Rattle.vcm_sheet.proofs.ticks.ticks_of.Given as goal

abbrev pub invariant-loop-turn : goal.invariant-loop-turn
invariant-loop-turn l = record {
  ticks : l.ticks.items ≡ ticks_before l.ruler l.turn;
  all : AllByRecursion (λ z. is_tick l.ruler z ≡ true) l.ticks.items;
}
