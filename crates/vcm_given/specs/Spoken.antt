-- What is said of single statements: by a command line that they are harmless, or that a table is back; and which sensor is selected again.
use Rattle.std.specs.Prelude.{ℕ, codes, ◌&&◌, ◌||◌, Bool, true, false, nat_eq, not, if◌then◌else◌, List, [], ◌∷◌, Option, Some, None}
use Rattle.std.specs.List.{list_any, list_all, flat_map}
use Rattle.std.specs.Str.{bytes_eq}
use Rattle.vcm_lines.specs.declared.logical.Logical.{Logical}
use Rattle.vcm_lines.specs.Lexemes.{Lexeme, Run, Quoted}
use Rattle.vcm_heads.specs.declared.heads.Mark.TheVariants as marks
use Rattle.vcm_heads.specs.declared.rows.Row.{Row}
use Rattle.vcm_heads.specs.declared.rows.Row.TheVariants as row
use Rattle.vcm_heads.specs.Heads.{past, past_word, title_at, major_of, behind_of}
use Rattle.vcm_heads.specs.Rows.{row_in, words_of}
use Rattle.vcm_heads.specs.Steps.{◌>>=◌}
use Rattle.vcm_given.specs.declared.spoken.Saying.{Saying}
use Rattle.vcm_given.specs.declared.spoken.Saying.TheVariants.{Harmless, Back, Same, Probe, Unclear}
use Rattle.vcm_given.specs.declared.spoken.Spoken.{Spoken}
use Rattle.vcm_given.specs.declared.choices.GivenProbe.{GivenProbe}
use Rattle.vcm_given.specs.Fields.{last_of}

-- ---- harmless statements

-- whether a word is this name, in quotes or not
abbrev pub is_word : List ℕ → Lexeme → Bool
is_word name (Run w) = bytes_eq name w
is_word name (Quoted w) = bytes_eq name w
is_word name w = false

-- whether a statement with this row and this major word goes by a word that is none of the standard, or is a CALL that names it
abbrev pub goes_by_row : Row → (major : List ℕ) → (behind : List Lexeme) → List ℕ → Bool
goes_by_row row.Other major behind name = bytes_eq name major
goes_by_row row.Call major behind name = list_any (is_word name) behind
goes_by_row r major behind name = false

-- whether a statement does
abbrev pub goes_by : Row → List Lexeme → List ℕ → Bool
goes_by r ws name = goes_by_row r (major_of ws) (behind_of ws) name

-- whether a statement is said to be harmless: it goes by one of these words
abbrev pub is_harmless : List (List ℕ) → Logical → Bool
is_harmless names l = list_any (goes_by (row_in (words_of l)) (words_of l)) names

-- ---- carriages

-- whether statements of a row may stand above the choice of a carriage: they move nothing, and say no place
abbrev pub is_passive : Row → Bool
is_passive row.Silent = true
is_passive row.Stated = true
is_passive row.Units = true
is_passive row.Mode = true
is_passive r = false

-- whether a statement chooses a carriage
abbrev pub is_carriage : Logical → Bool
is_carriage l = bytes_eq (major_of (words_of l)) (codes "CRSLCT")

-- whether the first choice of a carriage stands above all that moves
abbrev pub chooses_first : List Logical → Bool
chooses_first [] = false
chooses_first (l ∷ ls) = if is_carriage l then true else is_passive (row_in (words_of l)) && chooses_first ls

-- the carriage of a statement
abbrev pub carriage_in : Logical → Option (List ℕ × List Lexeme)
carriage_in l = past marks.Slash (behind_of (words_of l)) >>= title_at (codes "CR")

-- whether that is the one with this name
abbrev pub is_named : List ℕ → Option (List ℕ × List Lexeme) → Bool
is_named name None = false
is_named name (Some l) = bytes_eq l.0 name

-- whether a statement chooses no other one
abbrev pub chooses_no_other : List ℕ → Logical → Bool
chooses_no_other name l = not (is_carriage l) || is_named name (carriage_in l)

-- whether the text has one carriage alone, with this name, chosen above all that moves
abbrev pub is_lone : List Logical → Option (List ℕ × List Lexeme) → Bool
is_lone ls None = false
is_lone ls (Some l) = chooses_first ls && list_all (chooses_no_other l.0) ls

-- whether a statement chooses the one carriage that the text has
abbrev pub chooses_lone : List Logical → Logical → Bool
chooses_lone ls l = is_carriage l && is_lone ls (carriage_in l)

-- ---- tables

-- the table that a statement turns
abbrev pub table_in : Logical → Option (List ℕ × List Lexeme)
table_in l = past marks.Slash (behind_of (words_of l)) >>= title_at (codes "RT")

-- whether a row is that of ROTAB
abbrev pub is_table : Row → Bool
is_table row.Table = true
is_table r = false

-- whether there is a number
abbrev pub is_there : Option ℕ → Bool
is_there None = false
is_there (Some n) = true

-- the last field of a statement, if that is a number: an angle in millionths
abbrev pub angle_in : Logical → Option ℕ
angle_in l = last_of (past marks.Slash (behind_of (words_of l)))

-- whether a statement turns no other table than the one with this name, and that by an angle as its last field, so that no frame turns with it
abbrev pub turns_alone : List ℕ → Logical → Bool
turns_alone name l = not (is_table (row_in (words_of l))) || (is_named name (table_in l) && is_there (angle_in l))

-- whether a word says that an angle is that of the table itself
abbrev pub is_absolute : Lexeme → Bool
is_absolute (Run w) = bytes_eq w (codes "ABSL")
is_absolute w = false

-- whether two angles are one
abbrev pub is_angle : Option ℕ → Option ℕ → Bool
is_angle (Some a) (Some b) = nat_eq a b
is_angle a b = false

-- whether the one table of a text comes to this angle
abbrev pub comes_to : Option ℕ → List Logical → Logical → Option (List ℕ × List Lexeme) → Bool
comes_to angle ls l None = false
comes_to angle ls l (Some t) = is_angle angle (angle_in l) && (list_any is_absolute (words_of l) && list_all (turns_alone t.0) ls)

-- whether a statement turns the table back to where it stood at the start
abbrev pub turns_back : Option ℕ → List Logical → Logical → Bool
turns_back None ls l = false
turns_back (Some n) ls l = is_table (row_in (words_of l)) && comes_to (Some n) ls l (table_in l)

-- ---- sensors

-- a title with nothing behind it
abbrev pub lone : Bool → Option (List ℕ × List Lexeme) → Option (List ℕ × Bool)
lone actual (Some (l, [])) = Some (l, actual)
lone actual t = None

-- a sensor that is found, or else another one
abbrev pub either_sensor : (a b : Option (List ℕ × Bool)) → Option (List ℕ × Bool)
either_sensor None b = b
either_sensor (Some a) b = Some a

-- the one sensor of fields, by its nominal definition or by its actual one: S(l) or SA(l), with nothing behind it
abbrev pub lone_in : Option (List Lexeme) → Option (List ℕ × Bool)
lone_in None = None
lone_in (Some fields) = either_sensor (lone false (title_at (codes "S") fields)) (lone true (title_at (codes "SA") fields))

-- whether a row is that of SNSLCT
abbrev pub is_selection : Row → Bool
is_selection row.Sensor = true
is_selection r = false

-- the one sensor that a statement selects, if it does
abbrev pub selected : Logical → Option (List ℕ × Bool)
selected l = if is_selection (row_in (words_of l)) then lone_in (past marks.Slash (behind_of (words_of l))) else None

-- whether that is this one
abbrev pub is_sensor : List ℕ → Bool → Option (List ℕ × Bool) → Bool
is_sensor name actual None = false
is_sensor name actual (Some s) = bytes_eq s.0 name && (if s.1 then actual else not actual)

-- the first line that selects this sensor
abbrev pub first_line : List ℕ → Bool → List Logical → Option ℕ
first_line name actual [] = None
first_line name actual (l ∷ ls) = if is_sensor name actual (selected l) then Some l.line else first_line name actual ls

-- the same of the sensor that a statement selects
abbrev pub first_of : List Logical → Option (List ℕ × Bool) → Option ℕ
first_of ls None = None
first_of ls (Some s) = first_line s.0 s.1 ls

-- what is said of a selection whose sensor was first selected on a line
abbrev pub same_as : Option ℕ → Option Saying
same_as None = None
same_as (Some n) = Some (Same n)

-- ---- probes of a file

-- whether there are none
abbrev pub no_probes : List GivenProbe → Bool
no_probes [] = true
no_probes (p ∷ ps) = false

-- the number of the probe with this name, 0 where the file has none
abbrev pub number_of : List ℕ → List GivenProbe → ℕ
number_of name [] = 0
number_of name (p ∷ ps) = if bytes_eq p.name name then p.number else number_of name ps

-- whether a statement begins a macro that has a parameter of this name
abbrev pub has_parameter : List ℕ → Logical → Bool
has_parameter name l = bytes_eq (major_of (words_of l)) (codes "MACRO") && list_any (is_word name) (behind_of (words_of l))

-- whether a text has one
abbrev pub is_parameter : List ℕ → List Logical → Bool
is_parameter name ls = list_any (has_parameter name) ls

-- what is said of a selection of this name, by these probes: what is a parameter's name may stand for any other
abbrev pub probe_said : List GivenProbe → List Logical → List ℕ → Saying
probe_said ps ls name = if is_parameter name ls then Unclear else Probe (number_of name ps)

-- the same of a statement
abbrev pub probe_saying : List GivenProbe → List Logical → Option (List ℕ × Bool) → Option Saying
probe_saying ps ls None = None
probe_saying ps ls (Some s) = Some (probe_said ps ls s.0)

-- what is said of a selection: by the probes of a file, or by the line that selected the same sensor first
abbrev pub selection_saying : List GivenProbe → List Logical → Option (List ℕ × Bool) → Option Saying
selection_saying ps ls s = if no_probes ps then same_as (first_of ls s) else probe_saying ps ls s

-- ---- statements

-- what is said of a statement: by these probes, with these words as harmless, and a table that stands at this angle at the start
abbrev pub saying_of : List GivenProbe → List (List ℕ) → Option ℕ → List Logical → Logical → Option Saying
saying_of ps names angle ls l =
    if is_harmless names l then Some Harmless
    else if chooses_lone ls l then Some Harmless
    else if turns_back angle ls l then Some Back
    else selection_saying ps ls (selected l)

-- the same on its line
abbrev pub spoken_on : ℕ → Option Saying → List Spoken
spoken_on line None = []
spoken_on line (Some s) = record { line = line; saying = s } ∷ []

-- the same of a statement, among those of its text
unfoldable pub spoken_by : List GivenProbe → List (List ℕ) → Option ℕ → List Logical → Logical → List Spoken
spoken_by ps names angle ls l = spoken_on l.line (saying_of ps names angle ls l)

-- what is said of a text's statements
abbrev pub spoken : List GivenProbe → List (List ℕ) → Option ℕ → List Logical → List Spoken
spoken ps names angle ls = flat_map (spoken_by ps names angle ls) ls

-- what is said of the statement on a line
abbrev pub saying_at : ℕ → List Spoken → Option Saying
saying_at line [] = None
saying_at line (s ∷ ss) = if nat_eq s.line line then Some s.saying else saying_at line ss
