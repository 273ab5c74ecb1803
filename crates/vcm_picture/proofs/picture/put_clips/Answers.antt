use Rattle.vcm_picture.specs.Picture.{clip_text}
use Rattle.vcm_picture.proofs.Faces.{given_on}
use Rattle.vcm_picture.proofs.picture.put_clips.Goals as goal

pub loop-view-preserved : goal.loop-view-preserved
loop-view-preserved c = record {
  bytes = given_on (clip_text c.args.window) c.args.views.now c.loop-view.view-index _ _ _ _ c.loop-view-test.true c.in_ok-put_clip.ensures c.loop-view.invariant.bytes;
}
