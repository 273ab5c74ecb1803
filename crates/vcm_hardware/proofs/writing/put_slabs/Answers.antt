use Rattle.vcm_hardware.proofs.Counts.{put_more, put_all}
use Rattle.vcm_hardware.proofs.writing.put_slabs.Goals as goal

pub loop-index-preserved : goal.loop-index-preserved
loop-index-preserved c = record {
  bytes = put_more c.args.slabs.now c.args.name.now c.loop-index.index c.args.slabs.now.count c.loop-index.out.items _ _ c.loop-index-test.true
      c.loop-index.invariant.bytes (rw c.slab_of.ensures at c.in_ok-put_slab.ensures);
}

pub returns : goal.returns
returns c = put_all c.args.slabs.now c.args.name.now c.loop-index.index c.args.slabs.now.count c.loop-index.out.items _ c.loop-index-test.false c.loop-index.invariant.bytes
