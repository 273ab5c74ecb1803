-- Numbers in the fields of statements.
use Rattle.std.specs.Prelude.{ℕ, zero, suc, codes, ◌||◌, Bool, true, false, if◌then◌else◌, List, [], ◌∷◌, Option, Some, None}
use Rattle.std.specs.Str.{bytes_eq}
use Rattle.vcm_lines.specs.declared.phrase.Cutter.TheVariants.{AtComma}
use Rattle.vcm_lines.specs.Lexemes.{Lexeme, Run, Number}
use Rattle.vcm_lines.specs.Cuts.{before, after}
use Rattle.vcm_plain.specs.Numbers.{millionths_in}
use Rattle.vcm_given.specs.declared.fields.TheConstants.{MOST_FIELDS}

-- the number that a word is, in millionths
abbrev pub number_by : Lexeme → Option ℕ
number_by (Run bs) = millionths_in bs
number_by (Number bs) = millionths_in bs
number_by w = None

-- the number that a field is, without a sign
abbrev pub number_in : List Lexeme → Option ℕ
number_in (w ∷ []) = number_by w
number_in ws = None

-- whether a field is a word for the shape of a tip, behind which its sizes stand
abbrev pub is_shape : List Lexeme → Bool
is_shape (Run w ∷ ws) = bytes_eq w (codes "SPHERE") || (bytes_eq w (codes "CYLNDR") || bytes_eq w (codes "DISK"))
is_shape ws = false

-- the number that the last of fields is, or the last in front of a shape, behind this one
unfoldable pub last_number : ℕ → Option ℕ → Option (List Lexeme) → Option ℕ
last_number n found None = found
last_number zero found (Some ws) = None
last_number (suc n) found (Some ws) = if is_shape ws then found else last_number n (number_in (before AtComma ws)) (after AtComma ws)

-- the same of a statement's fields
abbrev pub last_of : Option (List Lexeme) → Option ℕ
last_of fields = last_number MOST_FIELDS None fields
