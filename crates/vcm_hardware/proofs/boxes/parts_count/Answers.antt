use Rattle.std.proofs.Common.{sym, arith}
use Rattle.vcm_hardware.proofs.Loops.{counted_part, counted_parts}
use Rattle.vcm_hardware.proofs.boxes.parts_count.Goals as goal

pub loop-part-preserved : goal.loop-part-preserved
loop-part-preserved c = record {
  few = omega (arith, c.loop-part.invariant.few, c.slabs_count-count.ensures.small);
  so_far = counted_part c.args.turning.now c.args.tip c.args.parts.now c.loop-part.part-index c.part-item.result c.loop-part.count c.slabs_count-count.result _
      c.loop-part-test.true (sym c.part-item.is) c.loop-part.invariant.so_far (rw c.part_slabs.ensures.value at c.slabs_count-count.ensures.value);
}

pub returns-clause-value : goal.returns-clause-value
returns-clause-value c =
    counted_parts c.args.turning.now c.args.tip c.args.parts.now c.loop-part.part-index c.loop-part.count _ c.loop-part-test.false c.loop-part.invariant.so_far
