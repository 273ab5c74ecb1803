use Rattle.std.proofs.Common.{sym}
use Rattle.vcm_hardware.specs.declared.description.Cylinder.{Cylinder}
use Rattle.vcm_hardware.specs.Boxes.{part_boxes}
use Rattle.vcm_hardware.specs.ProbeFile.{blocks_text}
use Rattle.vcm_hardware.proofs.Loops.{flat_more, flat_all}
use Rattle.vcm_hardware.proofs.writing.put_parts.Goals as goal

pub loop-part-preserved : goal.loop-part-preserved
loop-part-preserved c = record {
  bytes = flat_more (λ (part : Cylinder). blocks_text part.name (part_boxes c.args.turning.now c.args.tip part)) c.args.parts.now c.loop-part.part-index c.part-item.result
      c.loop-part.out.items _ _ c.loop-part-test.true (sym c.part-item.is) c.loop-part.invariant.bytes
      (rw (c.as_bytes.ensures, c.part_slabs.ensures.value) at c.in_ok-put_slabs.ensures);
}

pub returns : goal.returns
returns c =
    flat_all (λ (part : Cylinder). blocks_text part.name (part_boxes c.args.turning.now c.args.tip part)) c.args.parts.now c.loop-part.part-index c.loop-part.out.items _
    c.loop-part-test.false c.loop-part.invariant.bytes
