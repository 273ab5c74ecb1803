-- Pieces that are counted.
use Rattle.std.proofs.Common.{◌≡◌, ℕ, ◌+◌, Bool, true, false, arith}
use Rattle.vcm_marks.specs.Pieces.{counted}

-- one more is one and the rest
pub counted_more : (b : Bool) (n : ℕ) → counted b n ≡ counted b 0 + n
counted_more true n = omega arith
counted_more false n = omega arith
