use Rattle.std.proofs.Common.{◌≡◌, ◌++◌, map, drop}
use Rattle.vcm_picture.specs.Shown.{seen_of}
use Rattle.vcm_picture.proofs.strips.push_seen.Given as goal

abbrev pub invariant-loop-face : goal.invariant-loop-face
invariant-loop-face l = record {
  seen : l.seen.items ++ map (seen_of l.unit l.all) (drop l.face-index l.all) ≡ l.fn.seen.items ++ map (seen_of l.unit l.all) l.all;
}
