use Rattle.std.proofs.Common.{◌≡◌, take}
use Rattle.vcm_image.proofs.copying.frames.Given as goal

abbrev pub invariant-loop-n : goal.invariant-loop-n
invariant-loop-n l = l.copies ≡ take l.n l.image.tables.frames
