-- Names of bodies, probes and variables.
use Rattle.std.specs.Prelude.{ℕ, ◌==◌, ◌&&◌, ◌||◌, nat_le, Bool, false, List, [], ◌∷◌, length, Option, Some, None, if◌then◌else◌}
use Rattle.std.specs.List.{list_all}
use Rattle.std.specs.Char.{is_ascii_alphabetic, is_ascii_digit}

-- a letter, a digit or an underscore
abbrev pub is_name_byte : ℕ → Bool
is_name_byte b = is_ascii_alphabetic b || is_ascii_digit b || b == 95

-- one of these, or a hyphen
abbrev pub is_label_byte : ℕ → Bool
is_label_byte b = is_name_byte b || b == 45

-- one of those, a plus or a point
abbrev pub is_probe_byte : ℕ → Bool
is_probe_byte b = is_label_byte b || b == 43 || b == 46

-- at least one byte and at most so many, each of which passes the test
abbrev pub is_word : (ℕ → Bool) → ℕ → List ℕ → Bool
is_word test most bs = nat_le 1 (length bs) && nat_le (length bs) most && list_all test bs

-- whether the first byte is a letter
abbrev pub begins_with_letter : List ℕ → Bool
begins_with_letter [] = false
begins_with_letter (b ∷ bs) = is_ascii_alphabetic b

-- the name of a body: a label of at most 16 bytes; that of a probe, of at most 64; that of a variable, with a letter first
abbrev pub is_label : ℕ → List ℕ → Bool
is_label most bs = is_word is_label_byte most bs

abbrev pub is_probe_name : List ℕ → Bool
is_probe_name bs = is_word is_probe_byte 64 bs

abbrev pub is_variable : List ℕ → Bool
is_variable bs = begins_with_letter bs && is_word is_name_byte 16 bs

-- these bytes, if they pass a test
abbrev pub if_passed : Bool → List ℕ → Option (List ℕ)
if_passed passed bs = if passed then Some bs else None

-- the label of at most so many bytes that these are
abbrev pub label_of : ℕ → List ℕ → Option (List ℕ)
label_of most bs = if_passed (is_label most bs) bs
