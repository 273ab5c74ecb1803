use Rattle.std.proofs.Common.{◌≡◌, take, filter}
use Rattle.vcm_picture.specs.inner.Strips.{reaches}
use Rattle.vcm_picture.proofs.strips.reaching.Given as goal

abbrev pub invariant-loop-face : goal.invariant-loop-face
invariant-loop-face l = record {
  faces : l.faces.items ≡ filter (reaches l.left l.right) (take l.face-index l.all);
}
