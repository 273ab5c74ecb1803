use Rattle.std.proofs.Common.{[]}
use Rattle.vcm_sheet.proofs.Saying.{adds_then}
use Rattle.vcm_sheet.proofs.frames.put_axes.Goals as goal

pub returns : goal.returns
returns c = adds_then c.put_level.result [] [] _ _ _ c.in_ok-put_upright.ensures c.put_level.ensures
