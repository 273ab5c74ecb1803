use Rattle.std.proofs.Common.{arith}
use Rattle.vcm_hardware.proofs.Counts.{counted_more, counted_all}
use Rattle.vcm_hardware.proofs.boxes.slabs_count.Goals as goal

pub loop-index-preserved : goal.loop-index-preserved
loop-index-preserved c = record {
  few = omega (arith, c.loop-index.invariant.few, c.room_count-count.ensures.small);
  so_far = counted_more c.args.slabs.now c.loop-index.index c.args.slabs.now.count c.loop-index.count c.room_count-count.result _ c.loop-index-test.true
      c.loop-index.invariant.so_far (rw c.slab_of.ensures at c.room_count-count.ensures.value);
}

pub returns-clause-value : goal.returns-clause-value
returns-clause-value c =
    counted_all c.args.slabs.now c.loop-index.index c.args.slabs.now.count c.loop-index.count _ c.loop-index-test.false c.loop-index.invariant.so_far
