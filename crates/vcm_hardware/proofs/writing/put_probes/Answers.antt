use Rattle.std.proofs.Common.{sym}
use Rattle.vcm_hardware.specs.ProbeFile.{probe_text}
use Rattle.vcm_hardware.proofs.Loops.{flat_more, flat_all}
use Rattle.vcm_hardware.proofs.writing.put_probes.Goals as goal

pub loop-choice-preserved : goal.loop-choice-preserved
loop-choice-preserved c = record {
  bytes = flat_more (probe_text c.args.hardware.now) c.args.choices.now c.loop-choice.choice-index c.choice-item.result c.loop-choice.out.items _ _
      c.loop-choice-test.true (sym c.choice-item.is) c.loop-choice.invariant.bytes c.in_ok-put_probe.ensures;
}

pub returns : goal.returns
returns c = flat_all (probe_text c.args.hardware.now) c.args.choices.now c.loop-choice.choice-index c.loop-choice.out.items _ c.loop-choice-test.false c.loop-choice.invariant.bytes
