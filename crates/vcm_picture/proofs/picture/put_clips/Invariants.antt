use Rattle.std.proofs.Common.{◌≡◌, ◌++◌, drop}
use Rattle.vcm_picture.specs.Picture.{clips_text}
use Rattle.vcm_picture.proofs.picture.put_clips.Given as goal

abbrev pub invariant-loop-view : goal.invariant-loop-view
invariant-loop-view l = record {
  bytes : l.out.items ++ clips_text l.fn.window (drop l.view-index l.views) ≡ l.fn.out.items ++ clips_text l.fn.window l.views;
}
