-- Which marks are pieces, and how many there are.
use Rattle.std.specs.Prelude.{ℕ, suc, Bool, true, false, List, [], ◌∷◌}
use Rattle.vcm_marks.specs.declared.mark.Mark.{Mark}
use Rattle.vcm_marks.specs.declared.mark.Mark.TheVariants.{Goes}
use Rattle.vcm_marks.specs.declared.mark.PlacedMark.{PlacedMark}

-- whether a mark is a piece
abbrev pub is_piece : Mark → Bool
is_piece (Goes piece) = true
is_piece _ = false

-- one more, where the test holds
abbrev pub counted : Bool → ℕ → ℕ
counted true n = suc n
counted false n = n

-- how many pieces there are among marks
abbrev pub pieces : List PlacedMark → ℕ
pieces [] = 0
pieces (m ∷ ms) = counted (is_piece m.mark) (pieces ms)
