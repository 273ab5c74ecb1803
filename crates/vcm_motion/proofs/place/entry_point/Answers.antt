use Rattle.std.proofs.Common.{arith, rules, w64, FitsSigned, to_z-of_z}
use Rattle.vcm_num.specs.Point.{coordinate}
use Rattle.vcm_num.proofs.PointLemmas.{near_again, near_read}
use Rattle.vcm_motion.proofs.Inside.{reachable}
use Rattle.vcm_motion.proofs.Shares.{entered_there, never_entered}
use Rattle.vcm_motion.proofs.place.entry_point.Goals as goal

pub returns-in_err-at : goal.returns-in_err-at
returns-in_err-at c =
    rw c.from_residual.ensures
    (never_entered c.args.tip (coordinate c.args.from) (coordinate c.args.to) c.args.block.now c.requires.block c.in_err-at.ensures.missed)

pub part_of_way-requires-2-clause-from : goal.part_of_way-requires-2-clause-from
part_of_way-requires-2-clause-from c = near_again _ (reachable c.args.from c.requires.from 1 (omega arith))

pub part_of_way-requires-2-clause-to : goal.part_of_way-requires-2-clause-to
part_of_way-requires-2-clause-to c = near_again _ (reachable c.args.to c.requires.to 1 (omega arith))

pub part_of_way-requires-3-clause-from : goal.part_of_way-requires-3-clause-from
part_of_way-requires-3-clause-from c = near_again _ (reachable c.args.from c.requires.from 2 (omega arith))

pub part_of_way-requires-3-clause-to : goal.part_of_way-requires-3-clause-to
part_of_way-requires-3-clause-to c = near_again _ (reachable c.args.to c.requires.to 2 (omega arith))

pub returns : goal.returns
returns c =
    let fx : FitsSigned w64 c.part_of_way.result = search rules in
    let fy : FitsSigned w64 c.part_of_way-2.result = search rules in
    let fz : FitsSigned w64 c.part_of_way-3.result = search rules in
    entered_there c.args.tip (coordinate c.args.from) (coordinate c.args.to) c.args.block.now c.requires.block c.in_ok-at.at.num c.in_ok-at.at.den c.in_ok-at.ensures.met
    c.new.result _ _ _ (rw (to_z-of_z fx, to_z-of_z fy, to_z-of_z fz) at c.new.ensures)
    (rw (near_read _ (reachable c.args.from c.requires.from 0 (omega arith)), near_read _ (reachable c.args.to c.requires.to 0 (omega arith))) at c.part_of_way.ensures)
    (rw (near_read _ (reachable c.args.from c.requires.from 1 (omega arith)), near_read _ (reachable c.args.to c.requires.to 1 (omega arith))) at c.part_of_way-2.ensures)
    (rw (near_read _ (reachable c.args.from c.requires.from 2 (omega arith)), near_read _ (reachable c.args.to c.requires.to 2 (omega arith))) at c.part_of_way-3.ensures)
