-- The kinds of bytes.
use Rattle.std.specs.Prelude.{ℕ, ◌==◌, ◌||◌, ◌&&◌, nat_le, Bool, if◌then◌else◌, ◌-◌}

-- a byte from the low one to the high one, both included
abbrev pub is_between : ℕ → ℕ → ℕ → Bool
is_between low high b = nat_le low b && nat_le b high

-- a space or a tab
abbrev pub is_blank : ℕ → Bool
is_blank b = b == 32 || b == 9

-- what may stand anywhere: the printable ASCII bytes and the tab
abbrev pub is_plain : ℕ → Bool
is_plain b = is_between 32 126 b || b == 9

-- what may stand in a text or a comment: also the bytes from 128 on
abbrev pub is_inner : ℕ → Bool
is_inner b = is_plain b || nat_le 128 b

-- a decimal digit
abbrev pub is_digit : ℕ → Bool
is_digit b = is_between 48 57 b

-- an ASCII letter
abbrev pub is_letter : ℕ → Bool
is_letter b = is_between 65 90 b || is_between 97 122 b

-- what a run is made of: letters, digits and underscores
abbrev pub is_run : ℕ → Bool
is_run b = is_letter b || is_digit b || b == 95

-- a letter in upper case; any other byte as it is
abbrev pub upper : ℕ → ℕ
upper b = if is_between 97 122 b then b - 32 else b
