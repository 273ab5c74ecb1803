-- What is known where a session stands, as a line.
use Rattle.std.specs.Prelude.{ℕ, ℤ, pos, nat_eq, nat_le, codes, decimal, ◌&&◌, Bool, if◌then◌else◌, List, [], ◌∷◌, ◌++◌, Option, Some, None}
use Rattle.std.specs.Str.{bytes_eq}
use Rattle.std.specs.Ordering.{int_eq}
use Rattle.vcm_spec.specs.Setup.{Tables, Variable}
use Rattle.vcm_debug.specs.Debugging.{Debugging, now}
use Rattle.vcm_over.specs.Over.{line_at}
use Rattle.vcm_over.specs.declared.known.TheConstants.{FIRST_IMPLICIT}

-- whether a variable carries what is known: its expansion is one that no text reaches
abbrev pub is_implicit : Variable → Bool
is_implicit v = nat_le FIRST_IMPLICIT v.expansion

-- whether it does, and has this name
abbrev pub is_carrier : List ℕ → Variable → Bool
is_carrier name v = is_implicit v && bytes_eq v.name name

-- the values of those with a name
abbrev pub values_of : List ℕ → List Variable → List ℤ → List ℤ
values_of name [] zs = []
values_of name (v ∷ vs) [] = []
values_of name (v ∷ vs) (z ∷ zs) = if is_carrier name v then z ∷ values_of name vs zs else values_of name vs zs

-- the first of them, or this value
abbrev pub first_or : ℤ → List ℤ → ℤ
first_or z [] = z
first_or z (x ∷ xs) = x

-- the value of the one with a name, or this value
abbrev pub carried : List ℕ → ℤ → Tables → List ℤ → ℤ
carried name z t zs = first_or z (values_of name t.variables zs)

-- ---- the frame

-- whether a frame is the machine's, which no text names
abbrev pub is_machine : List ℕ → Bool
is_machine l = bytes_eq l (codes "________________")

-- the frame of the text that was given this number, the first of them
abbrev pub frame_with : ℤ → List ℤ → List (List ℕ) → Option (List ℕ)
frame_with n ks [] = None
frame_with n [] (l ∷ ls) = if is_machine l then frame_with n [] ls else None
frame_with n (k ∷ ks) (l ∷ ls) = if is_machine l then frame_with n (k ∷ ks) ls else if int_eq k n then Some l else frame_with n ks ls

-- a frame by its name, if it has one
abbrev pub name_text : Option (List ℕ) → List ℕ
name_text None = codes "frame known"
name_text (Some l) = codes "frame D(" ++ l ++ codes ")"

-- which frame is the current one, by its number: 0 is not known, 1 the machine's
abbrev pub frame_text : ℤ → Option (List ℕ) → List ℕ
frame_text n found = if int_eq n (pos 0) then codes "frame not known" else if int_eq n (pos 1) then codes "frame the machine's" else name_text found

-- ---- the machine

-- what is known in an epoch has its number
abbrev pub mode_text : ℤ → ℤ → List ℕ
mode_text mode epoch = if int_eq mode epoch then codes ", mode programmed" else codes ", mode not known"

abbrev pub table_text : ℤ → ℤ → List ℕ
table_text table epoch = if int_eq table epoch then [] else codes ", table not known"

abbrev pub place_text : ℤ → List ℕ
place_text place = if int_eq place (pos 0) then codes ", place not known" else codes ", place known"

-- the same, by the values that carry it
abbrev pub mode_in : Tables → List ℤ → List ℕ
mode_in t zs = mode_text (carried (codes "MODE") (pos 0) t zs) (carried (codes "EPOCH") (pos 0) t zs)

abbrev pub table_in : Tables → List ℤ → List ℕ
table_in t zs = table_text (carried (codes "TABLE") (pos 0) t zs) (carried (codes "EPOCH") (pos 0) t zs)

abbrev pub place_in : Tables → List ℤ → List ℕ
place_in t zs = place_text (carried (codes "PLACE") (pos 0) t zs)

-- the mode, the table and the place of the probe
abbrev pub state_text : Tables → List ℤ → List ℕ
state_text t zs = mode_in t zs ++ (table_in t zs ++ place_in t zs)

-- ---- variables

-- the number of an expansion, where it is another than that of the main program
abbrev pub expansion_text : ℕ → List ℕ
expansion_text e = if nat_eq e 0 then [] else codes "#" ++ decimal e

-- a variable
abbrev pub variable_text : Variable → List ℕ
variable_text v = v.name ++ expansion_text v.expansion

-- the variables of the text whose number isn't that of the epoch of values; each has one, in their order
abbrev pub unknown_text : ℤ → List ℤ → List Variable → List ℕ
unknown_text epoch ks [] = []
unknown_text epoch [] (v ∷ vs) = if is_implicit v then unknown_text epoch [] vs else []
unknown_text epoch (k ∷ ks) (v ∷ vs) =
    if is_implicit v then unknown_text epoch (k ∷ ks) vs
    else (if int_eq k epoch then [] else codes ", " ++ (variable_text v ++ codes " not known")) ++ unknown_text epoch ks vs

-- ---- the line

-- the current frame, which has this number
abbrev pub frame_in : ℤ → Tables → List ℤ → List ℕ
frame_in n t zs = frame_text n (frame_with n (values_of (codes "SAVED") t.variables zs) t.frames)

-- the variables that aren't known
abbrev pub unknown_in : Tables → List ℤ → List ℕ
unknown_in t zs = unknown_text (carried (codes "VALUES") (pos 0) t zs) (values_of (codes "KNOWN") t.variables zs) t.variables

-- what is known in a state whose current frame has this number
abbrev pub known_text : ℤ → Tables → List ℤ → List ℕ
known_text n t zs = frame_in n t zs ++ (state_text t zs ++ unknown_in t zs)

-- the same, where a program carries what is known
abbrev pub known_by : List ℤ → Tables → List ℤ → List ℕ
known_by [] t zs = codes "all known"
known_by (n ∷ ns) t zs = known_text n t zs

-- what is known in a state, by the values of its variables
abbrev pub known_line : Tables → List ℤ → List ℕ
known_line t zs = known_by (values_of (codes "FRAME") t.variables zs) t zs

-- ---- a session

-- what is known where a line is the next one: on the first line a run is being set up, and as at its start all is known
abbrev pub known_on : ℕ → List ℕ → List ℕ
known_on line text = if nat_eq line 1 then codes "all known" else text

-- what is known where a session stands
abbrev pub known_here : Debugging → List ℕ
known_here d = known_on (line_at d) (known_line d.code.tables (now d).world.variables)
