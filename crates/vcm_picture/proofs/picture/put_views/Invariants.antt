use Rattle.std.proofs.Common.{◌≡◌, ◌++◌, drop}
use Rattle.vcm_picture.specs.Drawing.{scene}
use Rattle.vcm_picture.specs.Picture.{views_text}
use Rattle.vcm_picture.proofs.picture.put_views.Given as goal

abbrev pub invariant-loop-view : goal.invariant-loop-view
invariant-loop-view l = record {
  bytes : l.out.items ++ views_text l.fn.window l.fn.layout (scene l.part l.world l.stopped) l.marks (drop l.view-index l.views)
      ≡ l.fn.out.items ++ views_text l.fn.window l.fn.layout (scene l.part l.world l.stopped) l.marks l.views;
}
