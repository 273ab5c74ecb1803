use Rattle.std.proofs.Common.{take}
use Rattle.std.specs.Prelude.{flat_map}
use Rattle.vcm_sheet.specs.Sayings.{Adds}
use Rattle.vcm_sheet.specs.Views.{number_said}
use Rattle.vcm_sheet.proofs.sheet.put_numbers.Given as goal

abbrev pub invariant-loop-number : goal.invariant-loop-number
invariant-loop-number l = record { rows : Adds (flat_map (number_said l.unit) (take l.number-index l.numbers)) l.fn.out.items l.out.items }
