use Rattle.std.proofs.Common.{rules, w64, FitsSigned, to_z-of_z}
use Rattle.vcm_sheet.proofs.Blocked.{enlarged_said, reduced_said}
use Rattle.vcm_sheet.proofs.block.put_scale.Goals as goal

pub returns-then-scale-lt10 : goal.returns-then-scale-lt10
returns-then-scale-lt10 c =
    let f : FitsSigned w64 c.args.scale = search rules in
    let g : FitsSigned w64 c.quotient.result = search rules in
    let q = simp to_z-of_z at c.quotient.ensures.value in
    enlarged_said c.put_cell.result c.args.scale _ _ (simp to_z-of_z at c.if-scale-lt10.true) (rw q at (simp to_z-of_z at c.put_cell.ensures))

pub returns : goal.returns
returns c =
    let f : FitsSigned w64 c.args.scale = search rules in
    let g : FitsSigned w64 c.quotient-2.result = search rules in
    let q = simp to_z-of_z at c.quotient-2.ensures.value in
    reduced_said c.put_cell-2.result c.args.scale _ _ (simp to_z-of_z at c.if-scale-lt10.false) (rw q at (simp to_z-of_z at c.put_cell-2.ensures))
