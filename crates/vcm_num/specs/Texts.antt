-- Numbers as text.
use Rattle.std.specs.Prelude.{ℕ, ℤ, pos, negsuc, ◌+◌, ◌/◌, ◌%◌, List, [], ◌∷◌, ◌++◌, decimal, unsigned_abs}

-- the sign of a number: none, or a minus
abbrev pub sign : ℤ → List ℕ
sign (pos n) = []
sign (negsuc n) = 45 ∷ []

-- three digits of a number below 1000
abbrev pub three_digits : ℕ → List ℕ
three_digits n = (48 + n / 100) ∷ (48 + (n / 10) % 10) ∷ (48 + n % 10) ∷ []

-- a number of thousandths without its sign: the whole part, a point, three decimals
abbrev pub size_text : ℕ → List ℕ
size_text n = decimal (n / 1000) ++ 46 ∷ three_digits (n % 1000)

-- a number of thousandths with three decimals
abbrev pub thousandths : ℤ → List ℕ
thousandths z = sign z ++ size_text (unsigned_abs z)
