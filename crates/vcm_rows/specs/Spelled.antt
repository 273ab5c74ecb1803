-- Any bytes as printable text.
use Rattle.std.specs.Prelude.{ℕ, ◌/◌, ◌%◌, ◌==◌, nat_le, Bool, ◌&&◌, not, if◌then◌else◌, List, [], ◌∷◌, flat_map, unwrap_or, slice_get, codes}

-- whether a byte stands for itself: a printable one that is neither < nor %
abbrev pub is_plain : ℕ → Bool
is_plain b = nat_le 32 b && nat_le b 126 && not (b == 60) && not (b == 37)

-- a hexadecimal digit, with capitals
abbrev pub hex_digit : ℕ → ℕ
hex_digit n = unwrap_or (slice_get (codes "0123456789ABCDEF") n) 48

-- a byte of a text: itself, or % and two hexadecimal digits
abbrev pub spelled_byte : ℕ → List ℕ
spelled_byte b = if is_plain b then b ∷ [] else 37 ∷ hex_digit (b / 16) ∷ hex_digit (b % 16) ∷ []

-- a text
abbrev pub spelled : List ℕ → List ℕ
spelled bs = flat_map spelled_byte bs
