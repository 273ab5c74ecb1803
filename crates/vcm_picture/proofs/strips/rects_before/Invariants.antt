use Rattle.std.proofs.Common.{◌≡◌, ◌++◌, drop}
use Rattle.vcm_picture.specs.Shown.{rects_before}
use Rattle.vcm_picture.proofs.strips.rects_before.Given as goal

abbrev pub invariant-loop-other : goal.invariant-loop-other
invariant-loop-other l = record {
  rects : l.before.items ++ rects_before l.face (drop l.other-index l.all) ≡ rects_before l.face l.all;
}
