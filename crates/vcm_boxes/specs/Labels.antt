-- Labels: words of letters, digits, hyphens and underscores.
use Rattle.std.specs.Prelude.{ℕ, ◌==◌, ◌&&◌, ◌||◌, nat_le, Bool, List, length, Option, Some, None, if◌then◌else◌}
use Rattle.std.specs.List.{list_all}
use Rattle.std.specs.Char.{is_ascii_alphabetic, is_ascii_digit}

-- a letter, a digit, a hyphen or an underscore
abbrev pub is_label_byte : ℕ → Bool
is_label_byte b = is_ascii_alphabetic b || is_ascii_digit b || b == 45 || b == 95

-- whether these bytes are a label of at most so many
abbrev pub is_label : ℕ → List ℕ → Bool
is_label most bs = nat_le 1 (length bs) && nat_le (length bs) most && list_all is_label_byte bs

-- the label of at most so many bytes that these are
abbrev pub label_of : ℕ → List ℕ → Option (List ℕ)
label_of most bs = if is_label most bs then Some bs else None
