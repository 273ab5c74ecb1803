use Rattle.std.proofs.Common.{rules, w64, FitsSigned, to_z-of_z}
use Rattle.vcm_num.specs.Point.{coordinate}
use Rattle.vcm_part.proofs.Three.{last_of}
use Rattle.vcm_part.proofs.inside.is_beneath.Goals as goal
use Rattle.vcm_part.proofs.inside.is_beneath.Goals.{then-is_to, else-is_to}

pub returns-then-is_to-2 : goal.returns-then-is_to-2
returns-then-is_to-2 c =
    let l0 : FitsSigned w64 (coordinate c.args.high 0) = search rules in
    let l1 : FitsSigned w64 (coordinate c.args.high 1) = search rules in
    let l2 : FitsSigned w64 (coordinate c.args.high 2) = search rules in
    let a0 : FitsSigned w64 (coordinate c.args.at 0) = search rules in
    let a1 : FitsSigned w64 (coordinate c.args.at 1) = search rules in
    let a2 : FitsSigned w64 (coordinate c.args.at 2) = search rules in
    elim c.if-is_to.branch [
      | then-is_to w ↦ last_of _ _ _ _ _ _ w.if-is_to.true (rw (to_z-of_z l0, to_z-of_z a0) at c.is_to.ensures) (cc (w.value-is, c.if-is_to-2.true))
          (rw (to_z-of_z l1, to_z-of_z a1) at w.is_to-then-is_to.ensures) (rw (to_z-of_z l2, to_z-of_z a2) at c.is_to-then-is_to-2.ensures)
      | else-is_to w ↦ absurd (cc (w.value-is, c.if-is_to-2.true))
    ]
