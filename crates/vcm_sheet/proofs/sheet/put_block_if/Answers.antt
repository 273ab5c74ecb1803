use Rattle.std.proofs.Common.{rules, w64, FitsSigned, to_z-of_z}
use Rattle.vcm_sheet.proofs.Saying.{adds_none}
use Rattle.vcm_sheet.proofs.sheet.put_block_if.Goals as goal

pub returns-in-Some : goal.returns-in-Some
returns-in-Some c =
    let f : FitsSigned w64 c.scale_on-scale.result = search rules in
    rw c.in-Some.is (rw (c.scale_on-scale.ensures.value, c.bounds-tip.ensures.bounds) at (simp to_z-of_z at c.put_block.ensures))

pub returns-in-None : goal.returns-in-None
returns-in-None c = rw c.in-None.is (adds_none _)
