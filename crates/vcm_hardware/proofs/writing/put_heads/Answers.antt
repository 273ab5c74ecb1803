use Rattle.std.proofs.Common.{sym}
use Rattle.vcm_hardware.specs.declared.description.StillBox.{StillBox}
use Rattle.vcm_hardware.specs.Boxes.{head_box}
use Rattle.vcm_hardware.specs.ProbeFile.{own_text}
use Rattle.vcm_hardware.proofs.Loops.{flat_more, flat_all}
use Rattle.vcm_hardware.proofs.writing.put_heads.Goals as goal

pub loop-still-preserved : goal.loop-still-preserved
loop-still-preserved c = record {
  bytes = flat_more (λ (still : StillBox). own_text still.name (head_box c.centre-centre.result still)) c.args.heads.now c.loop-still.still-index c.still-item.result
      c.loop-still.out.items _ _ c.loop-still-test.true (sym c.still-item.is) c.loop-still.invariant.bytes
      (rw (c.as_bytes.ensures, c.head_box.ensures) at c.in_ok-put_own.ensures);
}

pub returns : goal.returns
returns c =
    let all = flat_all (λ (still : StillBox). own_text still.name (head_box c.centre-centre.result still)) c.args.heads.now c.loop-still.still-index c.loop-still.out.items _
    c.loop-still-test.false c.loop-still.invariant.bytes in
    rw c.centre-centre.ensures.value at all
