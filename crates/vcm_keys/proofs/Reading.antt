-- The end of a text that is read line by line.
use Rattle.std.proofs.Common.{◌≡◌, ℕ, List, [], ◌∷◌, length, arith}
use Rattle.std.specs.List.{fold}
use Rattle.vcm_num.specs.Lines.{whole_lines}
use Rattle.vcm_keys.specs.Places.{Reading, with_line}

pub read_all : (r total : Reading) (rest : List ℕ) → length rest ≡ 0 → fold with_line r (whole_lines rest) ≡ total → r ≡ total
unfolding whole_lines
read_all r total [] e h = h
read_all r total (b ∷ bs) e h = absurd (omega (arith, e))
