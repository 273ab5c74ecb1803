use Rattle.vcm_picture.specs.Drawing.{scene}
use Rattle.vcm_picture.specs.Picture.{view_at}
use Rattle.vcm_picture.proofs.Faces.{given_on}
use Rattle.vcm_picture.proofs.picture.put_views.Goals as goal

pub loop-view-preserved : goal.loop-view-preserved
loop-view-preserved c =
    let shown = scene c.args.part.now c.args.world.now c.args.stopped.now in
    record {
      bytes = given_on (view_at c.args.window c.args.layout shown c.args.marks.now) c.args.views.now c.loop-view.view-index _ c.loop-view.out.items
          c.put_view_at.new.out.items _ c.loop-view-test.true c.in_ok-put_view_at.ensures c.loop-view.invariant.bytes;
    }
