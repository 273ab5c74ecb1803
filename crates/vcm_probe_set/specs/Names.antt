-- Names of probes, and of the variable that chooses one.
use Rattle.std.specs.Prelude.{ℕ, ◌==◌, ◌&&◌, ◌||◌, nat_le, Bool, false, List, [], ◌∷◌, length, map, Option, Some, None, if◌then◌else◌}
use Rattle.std.specs.List.{list_all}
use Rattle.std.specs.Char.{is_ascii_alphabetic, is_ascii_digit, to_ascii_uppercase}
use Rattle.vcm_boxes.specs.Labels.{is_label_byte, label_of}

-- a letter, a digit, a hyphen, an underscore, a plus or a full stop
abbrev pub is_probe_byte : ℕ → Bool
is_probe_byte b = is_label_byte b || b == 43 || b == 46

-- whether these bytes are the name of a probe: 1 to 64 of those
abbrev pub is_probe_name : List ℕ → Bool
is_probe_name bs = nat_le 1 (length bs) && nat_le (length bs) 64 && list_all is_probe_byte bs

-- the name of a probe that these are
abbrev pub probe_name_of : List ℕ → Option (List ℕ)
probe_name_of bs = if is_probe_name bs then Some bs else None

-- a letter, a digit or an underscore
abbrev pub is_variable_byte : ℕ → Bool
is_variable_byte b = is_ascii_alphabetic b || is_ascii_digit b || b == 95

-- whether the first byte is a letter
abbrev pub begins_with_letter : List ℕ → Bool
begins_with_letter [] = false
begins_with_letter (b ∷ bs) = is_ascii_alphabetic b

-- whether these bytes are the name of a variable: 1 to 16 letters, digits and underscores, a letter first
abbrev pub is_variable : List ℕ → Bool
is_variable bs = begins_with_letter bs && nat_le (length bs) 16 && list_all is_variable_byte bs

-- the variable that these are, in capital letters
abbrev pub variable_of : List ℕ → Option (List ℕ)
variable_of bs = if is_variable bs then label_of 16 (map to_ascii_uppercase bs) else None
