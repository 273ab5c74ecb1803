use Rattle.std.proofs.Common.{length}
use Rattle.vcm_sheet.proofs.paper.+first_above.Given as goal

-- the scales that are left
abbrev pub decreases-first_above : goal.decreases-first_above
decreases-first_above l = length l.scales.now
