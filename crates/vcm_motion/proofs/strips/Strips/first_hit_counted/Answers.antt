use Rattle.std.proofs.Common.{arith, ◌∙◌}
use Rattle.vcm_num.proofs.PointLemmas.{near_read}
use Rattle.vcm_num.specs.Point.{coordinate}
use Rattle.vcm_motion.specs.Strips.{width_of, first_strip, last_strip}
use Rattle.vcm_motion.proofs.Inside.{reachable}
use Rattle.vcm_motion.proofs.StripLists.{are_strips, count_is}
use Rattle.vcm_motion.proofs.strips.Strips.first_hit_counted.Goals as goal

pub first_in_strips-requires-clause-strips : goal.first_in_strips-requires-clause-strips
first_in_strips-requires-clause-strips c =
    let s = c.args.self.now in
    let low = near_read (coordinate s.bounds.low 0) (reachable s.bounds.low s.valid.low 0 (omega arith)) in
    rw (low, c.width-width.ensures, c.deref.ensures.value, c.deref-2.ensures.value, s.started, s.ordered)
    (are_strips (coordinate s.bounds.low 0) (width_of s.bounds) (omega arith) s.blocks.now)

pub returns-clause-count : goal.returns-clause-count
returns-clause-count c =
    let s = c.args.self.now in
    let low = near_read (coordinate s.bounds.low 0) (reachable s.bounds.low s.valid.low 0 (omega arith)) in
    let count = rw (low, c.width-width.ensures, c.deref.ensures.value) at c.first_in_strips.ensures.count in
    count ∙ count_is (coordinate s.bounds.low 0) (width_of s.bounds) s.blocks.now s.starts.items
    (first_strip (coordinate s.bounds.low 0) (width_of s.bounds) s.bounds.tip (coordinate c.args.from 0) (coordinate c.args.to 0))
    (last_strip (coordinate s.bounds.low 0) (width_of s.bounds) s.bounds.tip (coordinate c.args.from 0) (coordinate c.args.to 0)) s.started (omega arith) (omega arith)
