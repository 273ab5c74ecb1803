use Rattle.vcm_picture.proofs.Faces.{named_on}
use Rattle.vcm_picture.proofs.names.feature_names.Goals as goal

pub loop-placed-preserved : goal.loop-placed-preserved
loop-placed-preserved c = record {
  names = named_on c.args.scope c.args.features.now c.args.marks.now c.loop-placed.placed-index _ _ _ _ c.loop-placed-test.true c.in_ok-name_mark.ensures c.loop-placed.invariant.names;
}
