use Rattle.std.proofs.Common.{◌≡◌, ◌≤◌, ◌∙◌, length, arith}
use Rattle.vcm_num.proofs.PointLemmas.{near_again, near_read}
use Rattle.vcm_motion.proofs.Inside.{reachable}
use Rattle.vcm_motion.proofs.StripLists.{spans_few, filled, listed_more, all_listed, listed_short}
use Rattle.vcm_motion.proofs.strips.Strips.build.Goals as goal

pub spans_of-requires-clause-low : goal.spans_of-requires-clause-low
spans_of-requires-clause-low c = near_again _ (reachable c.bounds-bounds.result.low (rw c.bounds-bounds.ensures.bounds c.bounds-bounds.ensures.valid.low) 0 (omega arith))

pub fill-requires : goal.fill-requires
fill-requires c =
    let few : length c.blocks-blocks.result.now ≤ 4096 = rw c.blocks-blocks.ensures.blocks c.blocks-blocks.ensures.valid.few in
    spans_few _ _ c.blocks-blocks.result.now _ few (c.deref.ensures.value ∙ c.in_ok-spans.ensures)

pub overflow_cast-len : goal.overflow_cast-len
overflow_cast-len c =
    let few : length c.blocks-blocks.result.now ≤ 4096 = rw c.blocks-blocks.ensures.blocks c.blocks-blocks.ensures.valid.few in
    let more = filled _ _ _ _ _ _ _ (c.deref.ensures.value ∙ c.in_ok-spans.ensures) c.in_ok-fill.ensures in
    let short = listed_short _ _ _ _ _ _ _ few c.loop-strip-test.true c.loop-strip.invariant more in omega (arith, short, c.len.ensures)

pub loop-strip-preserved : goal.loop-strip-preserved
loop-strip-preserved c =
    let count : c.fill.new.order.len ≡ length c.fill.new.order.items = omega arith in
    let more = filled _ _ _ _ _ _ _ (c.deref.ensures.value ∙ c.in_ok-spans.ensures) c.in_ok-fill.ensures in
    listed_more _ _ _ _ _ _ _ _ c.loop-strip.invariant more (rw (c.len.ensures, count) at c.in_ok-push-2.ensures.items)

pub invariant_of-result-clause-started : goal.invariant_of-result-clause-started
invariant_of-result-clause-started c =
    let low = near_read _ (reachable c.bounds-bounds.result.low (rw c.bounds-bounds.ensures.bounds c.bounds-bounds.ensures.valid.low) 0 (omega arith)) in
    (all_listed _ _ _ _ _ _ _ _ c.loop-strip.invariant c.loop-strip-test.false c.loop-strip.auto.strip-end low c.width-width.ensures).started

pub invariant_of-result-clause-ordered : goal.invariant_of-result-clause-ordered
invariant_of-result-clause-ordered c =
    let low = near_read _ (reachable c.bounds-bounds.result.low (rw c.bounds-bounds.ensures.bounds c.bounds-bounds.ensures.valid.low) 0 (omega arith)) in
    (all_listed _ _ _ _ _ _ _ _ c.loop-strip.invariant c.loop-strip-test.false c.loop-strip.auto.strip-end low c.width-width.ensures).ordered
