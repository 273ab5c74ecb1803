use Rattle.std.proofs.Common.{arith, rules, w64, FitsSigned, to_z-of_z}
use Rattle.vcm_num.specs.Point.{coordinate}
use Rattle.vcm_num.proofs.PointLemmas.{near_again, near_read}
use Rattle.vcm_motion.proofs.Inside.{reachable}
use Rattle.vcm_carried.proofs.Sides.{made_of}
use Rattle.vcm_carried.proofs.place.point_on_way.Goals as goal

pub part_of_way-requires-clause-from : goal.part_of_way-requires-clause-from
part_of_way-requires-clause-from c = near_again _ (reachable c.args.way.now.from c.args.way.now.near_from 0 (omega arith))

pub part_of_way-requires-clause-to : goal.part_of_way-requires-clause-to
part_of_way-requires-clause-to c = near_again _ (reachable c.args.way.now.to c.args.way.now.near_to 0 (omega arith))

pub part_of_way-requires-2-clause-from : goal.part_of_way-requires-2-clause-from
part_of_way-requires-2-clause-from c = near_again _ (reachable c.args.way.now.from c.args.way.now.near_from 1 (omega arith))

pub part_of_way-requires-2-clause-to : goal.part_of_way-requires-2-clause-to
part_of_way-requires-2-clause-to c = near_again _ (reachable c.args.way.now.to c.args.way.now.near_to 1 (omega arith))

pub part_of_way-requires-3-clause-from : goal.part_of_way-requires-3-clause-from
part_of_way-requires-3-clause-from c = near_again _ (reachable c.args.way.now.from c.args.way.now.near_from 2 (omega arith))

pub part_of_way-requires-3-clause-to : goal.part_of_way-requires-3-clause-to
part_of_way-requires-3-clause-to c = near_again _ (reachable c.args.way.now.to c.args.way.now.near_to 2 (omega arith))

pub returns : goal.returns
returns c =
    let fx : FitsSigned w64 c.part_of_way.result = search rules in
    let fy : FitsSigned w64 c.part_of_way-2.result = search rules in
    let fz : FitsSigned w64 c.part_of_way-3.result = search rules in
    let from = reachable c.args.way.now.from c.args.way.now.near_from in
    let to = reachable c.args.way.now.to c.args.way.now.near_to in
    made_of (coordinate c.args.way.now.from) (coordinate c.args.way.now.to) c.args.at.num c.args.at.den c.new.result _ _ _
    (rw (to_z-of_z fx, to_z-of_z fy, to_z-of_z fz) at c.new.ensures)
    (rw (near_read _ (from 0 (omega arith)), near_read _ (to 0 (omega arith))) at c.part_of_way.ensures)
    (rw (near_read _ (from 1 (omega arith)), near_read _ (to 1 (omega arith))) at c.part_of_way-2.ensures)
    (rw (near_read _ (from 2 (omega arith)), near_read _ (to 2 (omega arith))) at c.part_of_way-3.ensures)
