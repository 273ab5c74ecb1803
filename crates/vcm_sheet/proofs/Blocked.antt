-- The cells of a title block.
use Rattle.std.proofs.Common.{◌≡◌, ℕ, ℤ, pos, true, false, List, [], ◌∷◌}
use Rattle.std.specs.Prelude.{int_lt, Result, OnOk, codes}
use Rattle.std.specs.Fmt.{signed_decimal}
use Rattle.std.specs.Int.{int_div_euclid}
use Rattle.vcm_sheet.specs.Block.{cell}
use Rattle.vcm_sheet.specs.Paper.{scale_words}
use Rattle.vcm_sheet.specs.Sayings.{Adds}

-- a scale above 1:1
pub enlarged_said : {A E : Type 0} (r : Result A E) (scale : ℤ) (o n : List ℕ) → int_lt scale (pos 10) ≡ true
    → OnOk r (Adds (cell (codes "scale") (signed_decimal (int_div_euclid (pos 10) scale) ∷ codes ":1" ∷ [])) o n)
    → OnOk r (Adds (cell (codes "scale") (scale_words scale)) o n)
enlarged_said r scale o n h k = rw h k

-- 1:1, or one below
pub reduced_said : {A E : Type 0} (r : Result A E) (scale : ℤ) (o n : List ℕ) → int_lt scale (pos 10) ≡ false
    → OnOk r (Adds (cell (codes "scale") (codes "1:" ∷ signed_decimal (int_div_euclid scale (pos 10)) ∷ [])) o n)
    → OnOk r (Adds (cell (codes "scale") (scale_words scale)) o n)
reduced_said r scale o n h k = rw h k
