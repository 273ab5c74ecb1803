use Rattle.std.proofs.Common.{rules, w64, FitsSigned, to_z-of_z}
use Rattle.vcm_num.specs.Point.{coordinate}
use Rattle.vcm_part.proofs.Three.{last_of}
use Rattle.vcm_part.proofs.inside.is_above.Goals as goal
use Rattle.vcm_part.proofs.inside.is_above.Goals.{then-is_from, else-is_from}

pub returns-then-is_from-2 : goal.returns-then-is_from-2
returns-then-is_from-2 c =
    let l0 : FitsSigned w64 (coordinate c.args.low 0) = search rules in
    let l1 : FitsSigned w64 (coordinate c.args.low 1) = search rules in
    let l2 : FitsSigned w64 (coordinate c.args.low 2) = search rules in
    let a0 : FitsSigned w64 (coordinate c.args.at 0) = search rules in
    let a1 : FitsSigned w64 (coordinate c.args.at 1) = search rules in
    let a2 : FitsSigned w64 (coordinate c.args.at 2) = search rules in
    elim c.if-is_from.branch [
      | then-is_from w ↦ last_of _ _ _ _ _ _ w.if-is_from.true (rw (to_z-of_z l0, to_z-of_z a0) at c.is_from.ensures) (cc (w.value-is, c.if-is_from-2.true))
          (rw (to_z-of_z l1, to_z-of_z a1) at w.is_from-then-is_from.ensures) (rw (to_z-of_z l2, to_z-of_z a2) at c.is_from-then-is_from-2.ensures)
      | else-is_from w ↦ absurd (cc (w.value-is, c.if-is_from-2.true))
    ]
