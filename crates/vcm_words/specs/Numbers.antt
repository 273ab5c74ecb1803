-- Numbers as they are written in a listing: in decimal, with no plus and no leading zeros.
use Rattle.std.specs.Prelude.{ℕ, zero, suc, ◌^◌, ◌+◌, ◌==◌, ◌&&◌, ◌||◌, nat_lt, if◌then◌else◌, Bool, true, false, ℤ, pos, negsuc, List, [], ◌∷◌}
use Rattle.std.specs.Prelude.{Option, Some, None, decimal}
use Rattle.std.specs.Char.{is_ascii_digit}
use Rattle.std.specs.List.{list_all}
use Rattle.std.specs.Str.{bytes_eq}
use Rattle.vcm_num.specs.Literals.{number_after}

-- the value, if the test holds
abbrev pub only_if : {A : Type 0} → Bool → A → Option A
only_if true x = Some x
only_if false x = None

-- the number below the limit whose decimal text this is
unfoldable pub natural : ℕ → List ℕ → Option ℕ
natural limit bs = only_if (nat_lt (number_after 0 bs) limit && bytes_eq (decimal (number_after 0 bs)) bs) (number_after 0 bs)

-- a number behind a minus: not 0
abbrev pub negated : Option ℕ → Option ℤ
negated None = None
negated (Some zero) = None
negated (Some (suc n)) = Some (negsuc n)

-- a number without a sign
abbrev pub unsigned : Option ℕ → Option ℤ
unsigned None = None
unsigned (Some n) = Some (pos n)

-- the whole number of 64 bits whose text this is
unfoldable pub whole : List ℕ → Option ℤ
whole [] = None
whole (b ∷ bs) = if b == 45 then negated (natural (2 ^ 63 + 1) bs) else unsigned (natural (2 ^ 63) (b ∷ bs))

-- whether these are digits, at least one of them
abbrev pub are_figures : List ℕ → Bool
are_figures [] = false
are_figures (b ∷ bs) = list_all is_ascii_digit (b ∷ bs)

-- whether this has the shape of a number: digits, perhaps behind a sign
abbrev pub is_figures : List ℕ → Bool
is_figures [] = false
is_figures (b ∷ bs) = if b == 43 || b == 45 then are_figures bs else are_figures (b ∷ bs)

-- a number below the limit; a line is read exactly, or only for its shape, and then whatever has the shape of a number stands for one
abbrev pub number : Bool → ℕ → List ℕ → Option ℕ
number true limit bs = natural limit bs
number false limit bs = only_if (is_figures bs) 0

-- a whole number of 64 bits, or the shape of a number in its place
abbrev pub signed : Bool → List ℕ → Option ℤ
signed true bs = whole bs
signed false bs = only_if (is_figures bs) (pos 0)

-- a count within its limits, or any
abbrev pub counted : Bool → Bool → Bool
counted true test = test
counted false test = true
