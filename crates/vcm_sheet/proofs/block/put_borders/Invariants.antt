use Rattle.std.proofs.Common.{[]}
use Rattle.vcm_sheet.specs.Sayings.{Adds}
use Rattle.vcm_sheet.proofs.block.put_borders.Given as goal

abbrev pub invariant-loop-from_right : goal.invariant-loop-from_right
invariant-loop-from_right l = record { quiet : Adds [] l.fn.out.items l.out.items }
