use Rattle.std.proofs.Common.{◌+◌, arith}
use Rattle.vcm_num.specs.Point.{coordinate}
use Rattle.vcm_num.proofs.PointLemmas.{near_again, near_read}
use Rattle.vcm_motion.proofs.Inside.{reachable}
use Rattle.vcm_motion.proofs.StripLemmas.{range_of, strips_cover, cut_places}
use Rattle.vcm_motion.proofs.listed.first_in_strips.Goals as goal

pub first_strip-start-requires-clause-from : goal.first_strip-start-requires-clause-from
first_strip-start-requires-clause-from c = near_again _ (reachable c.args.from c.requires.from 0 (omega arith))

pub first_strip-start-requires-clause-to : goal.first_strip-start-requires-clause-to
first_strip-start-requires-clause-to c = near_again _ (reachable c.args.to c.requires.to 0 (omega arith))

pub last_strip-end-requires-clause-from : goal.last_strip-end-requires-clause-from
last_strip-end-requires-clause-from c = near_again _ (reachable c.args.from c.requires.from 0 (omega arith))

pub last_strip-end-requires-clause-to : goal.last_strip-end-requires-clause-to
last_strip-end-requires-clause-to c = near_again _ (reachable c.args.to c.requires.to 0 (omega arith))

pub first_listed-requires-clause-covered : goal.first_listed-requires-clause-covered
first_listed-requires-clause-covered c =
    let low = near_read c.args.low c.requires.low in
    let from = near_read (coordinate c.args.from 0) (reachable c.args.from c.requires.from 0 (omega arith)) in
    let to = near_read (coordinate c.args.to 0) (reachable c.args.to c.requires.to 0 (omega arith)) in
    let start = rw (low, from, to) at c.first_strip-start.ensures in
    let end = rw (low, from, to) at c.last_strip-end.ensures in
    let range = range_of c.args.low c.args.width c.args.tip c.requires.strips.wide (coordinate c.args.from 0) (coordinate c.args.to 0) in
    rw (c.cut-listed.ensures, start, end)
    (strips_cover c.args.blocks.now c.requires.blocks c.args.low c.args.width c.args.starts.now c.args.order.now c.requires.strips c.args.tip (coordinate c.args.from) (coordinate c.args.to) _ _ range)

pub cut-listed-requires-clause-rising : goal.cut-listed-requires-clause-rising
cut-listed-requires-clause-rising c =
    let low = near_read c.args.low c.requires.low in
    let from = near_read (coordinate c.args.from 0) (reachable c.args.from c.requires.from 0 (omega arith)) in
    let to = near_read (coordinate c.args.to 0) (reachable c.args.to c.requires.to 0 (omega arith)) in
    let start = rw (low, from, to) at c.first_strip-start.ensures in
    let end = rw (low, from, to) at c.last_strip-end.ensures in
    let range = range_of c.args.low c.args.width c.args.tip c.requires.strips.wide (coordinate c.args.from 0) (coordinate c.args.to 0) in
    let sorted = range.sorted in
    let within = range.within in
    c.requires.strips.rising c.first_strip-start.result (c.last_strip-end.result + 1) (omega (arith, start, end, sorted)) (omega (arith, end, within))

pub overflow_sub-result : goal.overflow_sub-result
overflow_sub-result c =
    let low = near_read c.args.low c.requires.low in
    let from = near_read (coordinate c.args.from 0) (reachable c.args.from c.requires.from 0 (omega arith)) in
    let to = near_read (coordinate c.args.to 0) (reachable c.args.to c.requires.to 0 (omega arith)) in
    let start = rw (low, from, to) at c.first_strip-start.ensures in
    let end = rw (low, from, to) at c.last_strip-end.ensures in
    let range = range_of c.args.low c.args.width c.args.tip c.requires.strips.wide (coordinate c.args.from 0) (coordinate c.args.to 0) in
    let sorted = range.sorted in
    let within = range.within in
    c.requires.strips.rising c.first_strip-start.result (c.last_strip-end.result + 1) (omega (arith, start, end, sorted)) (omega (arith, end, within))

pub first_listed-requires-clause-places : goal.first_listed-requires-clause-places
first_listed-requires-clause-places c =
    let low = near_read c.args.low c.requires.low in
    let from = near_read (coordinate c.args.from 0) (reachable c.args.from c.requires.from 0 (omega arith)) in
    let to = near_read (coordinate c.args.to 0) (reachable c.args.to c.requires.to 0 (omega arith)) in
    let start = rw (low, from, to) at c.first_strip-start.ensures in
    let end = rw (low, from, to) at c.last_strip-end.ensures in
    let range = range_of c.args.low c.args.width c.args.tip c.requires.strips.wide (coordinate c.args.from 0) (coordinate c.args.to 0) in
    let sorted = range.sorted in
    let within = range.within in
    let first =
    c.requires.strips.rising c.first_strip-start.result (c.last_strip-end.result + 1) (omega (arith, start, end, sorted)) (omega (arith, end, within)) in
    let top = c.requires.strips.rising (c.last_strip-end.result + 1) 64 (omega (arith, end, within)) (omega arith) in
    let ends = c.requires.strips.ends in
    rw c.cut-listed.ensures (cut_places _ c.args.order.now _ _ first (omega (arith, top, ends)) c.requires.strips.places)
