-- The bytes of names.
use Rattle.std.specs.Prelude.{◌≡◌, ℕ, ◌==◌, ◌&&◌, ◌||◌, nat_le, Bool, true, false, List, [], ◌∷◌, length}
use Rattle.std.specs.List.{list_all}
use Rattle.std.specs.Char.{is_ascii_uppercase, is_ascii_digit}
use Rattle.vcm_num.specs.declared.limits.TheConstants.{LONGEST_NAME}

-- an upper-case letter, a digit or an underscore
abbrev pub is_name_byte : ℕ → Bool
is_name_byte b = is_ascii_uppercase b || is_ascii_digit b || b == 95

-- whether so many bytes are a name: 1 to 16, each of which may stand in one
abbrev pub is_name : List ℕ → Bool
is_name bs = nat_le 1 (length bs) && nat_le (length bs) LONGEST_NAME && list_all is_name_byte bs

-- the bytes are a name
abbrev pub IsName : List ℕ → Type 0
IsName bs = is_name bs ≡ true

-- whether bytes are a variable's name: a name that begins with a letter
abbrev pub is_variable_name : List ℕ → Bool
is_variable_name [] = false
is_variable_name (b ∷ bs) = is_ascii_uppercase b && is_name (b ∷ bs)

-- the bytes are a variable's name
abbrev pub IsVariableName : List ℕ → Type 0
IsVariableName bs = is_variable_name bs ≡ true
