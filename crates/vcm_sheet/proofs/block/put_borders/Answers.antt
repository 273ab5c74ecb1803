use Rattle.std.proofs.Common.{[]}
use Rattle.vcm_sheet.proofs.Saying.{adds_both}
use Rattle.vcm_sheet.proofs.block.put_borders.Goals as goal

pub loop-from_right-preserved : goal.loop-from_right-preserved
loop-from_right-preserved c = record { quiet = adds_both [] [] _ _ _ c.loop-from_right.invariant.quiet c.in_ok-put_border.ensures }

pub returns : goal.returns
returns c = c.loop-from_right.invariant.quiet
