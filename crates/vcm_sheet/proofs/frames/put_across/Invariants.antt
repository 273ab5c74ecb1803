use Rattle.std.proofs.Common.{take}
use Rattle.vcm_sheet.specs.Sayings.{Adds}
use Rattle.vcm_sheet.specs.Ticks.{ticks_said}
use Rattle.vcm_sheet.proofs.frames.put_across.Given as goal

abbrev pub invariant-loop-tick : goal.invariant-loop-tick
invariant-loop-tick l = record { rows : Adds (ticks_said (take l.tick-index l.ticks)) l.fn.out.items l.out.items }
