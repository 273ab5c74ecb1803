use Rattle.vcm_hardware.proofs.Counts.{swing_more, swing_all}
use Rattle.vcm_hardware.proofs.writing.put_swing.Goals as goal

pub loop-index-preserved : goal.loop-index-preserved
loop-index-preserved c = record {
  bytes = swing_more c.args.swing c.loop-index.index c.loop-index.out.items _ _ c.loop-index-test.true c.loop-index.invariant.bytes
      (rw c.swing_slab.ensures at c.in_ok-put_box.ensures);
}

pub returns : goal.returns
returns c = swing_all c.args.swing c.loop-index.index c.loop-index.out.items _ c.loop-index-test.false c.loop-index.invariant.bytes
