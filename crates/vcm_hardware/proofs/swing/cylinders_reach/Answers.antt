use Rattle.std.proofs.Common.{sym, ap, ◌∙◌}
use Rattle.vcm_hardware.specs.Swings.{farther_of}
use Rattle.vcm_hardware.proofs.Loops.{cylinders_more, cylinders_all}
use Rattle.vcm_hardware.proofs.swing.cylinders_reach.Goals as goal

pub loop-part-preserved : goal.loop-part-preserved
loop-part-preserved c = record {
  small = c.farther_of-all.ensures.small;
  so_far = cylinders_more c.args.parts.now c.loop-part.part-index c.part-item.result c.loop-part.all c.farther_of-all.result _ c.loop-part-test.true (sym c.part-item.is)
      c.loop-part.invariant.so_far (c.farther_of-all.ensures.value ∙ ap (farther_of c.loop-part.all) c.cylinder_reach.ensures.value);
}

pub returns-clause-value : goal.returns-clause-value
returns-clause-value c = cylinders_all c.args.parts.now c.loop-part.part-index c.loop-part.all _ c.loop-part-test.false c.loop-part.invariant.so_far
