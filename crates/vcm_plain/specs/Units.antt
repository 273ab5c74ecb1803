-- The unit of a text.
use Rattle.std.specs.Prelude.{ℕ, suc, ◌-◌, codes, Bool, true, false, not, nat_eq, ◌&&◌, ◌||◌, if◌then◌else◌, List, [], ◌∷◌, Option, Some, None}
use Rattle.std.specs.List.{list_all}
use Rattle.std.specs.Str.{bytes_eq}
use Rattle.vcm_num.specs.Words.{look_up}
use Rattle.vcm_lines.specs.declared.logical.Logical.{Logical}
use Rattle.vcm_heads.specs.declared.rows.Row.{Row}
use Rattle.vcm_heads.specs.declared.rows.Row.TheVariants as row
use Rattle.vcm_heads.specs.Heads.{found_or, major_of, behind_of, first_field}
use Rattle.vcm_heads.specs.Rows.{row_in, words_of}
use Rattle.vcm_plain.specs.declared.unit.Unit.{Unit}
use Rattle.vcm_plain.specs.declared.unit.Lengths.{Lengths}
use Rattle.vcm_plain.specs.declared.unit.Unit.TheVariants.{Millimetre, Centimetre, Metre, Inch, Foot}

-- how many micrometres a unit has
abbrev pub micrometres : Unit → ℕ
micrometres Millimetre = 1000
micrometres Centimetre = 10000
micrometres Metre = 1000000
micrometres Inch = 25400
micrometres Foot = 304800

-- an expression behind which this stands is one of millimetres
abbrev pub factor : Unit → List ℕ
factor Millimetre = []
factor Centimetre = codes "*10"
factor Metre = codes "*1000"
factor Inch = codes "*25.4"
factor Foot = codes "*304.8"

-- the unit that a word of UNITS names
abbrev pub unit_named : List ℕ → Option Unit
unit_named word = look_up
    ((codes "MM", Millimetre)
    ∷ (codes "CM", Centimetre)
    ∷ (codes "M", Metre)
    ∷ (codes "METER", Metre)
    ∷ (codes "INCH", Inch)
    ∷ (codes "FEET", Foot)
    ∷ []) word

-- whether two units are the same
abbrev pub is_same_unit : Unit → Unit → Bool
is_same_unit Millimetre Millimetre = true
is_same_unit Centimetre Centimetre = true
is_same_unit Metre Metre = true
is_same_unit Inch Inch = true
is_same_unit Foot Foot = true
is_same_unit u v = false

-- whether a row is that of UNITS
abbrev pub is_units : Row → Bool
is_units row.Units = true
is_units r = false

-- whether a row is that of words that move nothing and say no length
abbrev pub is_silent : Row → Bool
is_silent row.Silent = true
is_silent row.Datum = true
is_silent row.Plane = true
is_silent r = false

-- whether the unit is asked for behind a statement: it moves nothing and says no length
abbrev pub is_passed : Row → List ℕ → Bool
is_passed r major = is_silent r || bytes_eq major (codes "DECL")

-- a statement that sets no unit: it says none, but where it is passed
abbrev pub or_none : Bool → Option (Option Unit) → Option (Option Unit)
or_none passed (Some u) = Some u
or_none true None = None
or_none false None = Some None

-- the unit that a statement sets, if it is UNITS; none where that has another word
unfoldable pub set_by : Bool → Logical → Option (Option Unit)
set_by false l = None
set_by true l = Some (unit_named (first_field (behind_of (words_of l))))

-- what a statement says of the unit that its text begins with: the one that it sets, or none, or nothing where the unit is asked for behind it
unfoldable pub opens_with : Logical → Option (Option Unit)
opens_with l = or_none (is_passed (row_in (words_of l)) (major_of (words_of l))) (set_by (is_units (row_in (words_of l))) l)

-- the unit that a text begins with: that of UNITS as its first statement that isn't passed
abbrev pub opening_unit : List Logical → Option Unit
opening_unit [] = None
opening_unit (l ∷ ls) = found_or (opening_unit ls) (opens_with l)

-- whether a unit that is set is this one
abbrev pub is_unit : Unit → Option Unit → Bool
is_unit u None = false
is_unit u (Some v) = is_same_unit v u

-- whether a statement that sets this unit, if it sets one, sets no other
abbrev pub agrees_with : Unit → Option (Option Unit) → Bool
agrees_with u None = true
agrees_with u (Some v) = is_unit u v

-- whether a statement sets no other unit
abbrev pub agrees : Unit → Logical → Bool
agrees u l = agrees_with u (set_by (is_units (row_in (words_of l))) l)

-- whether no statement does
abbrev pub all_agree : Unit → List Logical → Bool
all_agree u ls = list_all (agrees u) ls

-- ---- several units

-- whether a statement begins a block, by its major word
abbrev pub begins_block : List ℕ → Bool
begins_block major = found_or false (look_up ((codes "IF", true) ∷ (codes "DO", true) ∷ (codes "SELECT", true) ∷ []) major)

-- whether it ends one
abbrev pub ends_block : List ℕ → Bool
ends_block major = found_or false (look_up ((codes "ENDIF", true) ∷ (codes "ENDDO", true) ∷ (codes "ENDSEL", true) ∷ []) major)

-- whether what stands below in writing may be carried out before, or more than once
abbrev pub bends : List ℕ → Bool
bends major = found_or false (look_up ((codes "MACRO", true) ∷ (codes "JUMPTO", true) ∷ (codes "ITERAT", true) ∷ []) major)

-- how many blocks are open behind a statement
abbrev pub depth_behind : ℕ → List ℕ → ℕ
depth_behind depth major = if begins_block major then suc depth else if ends_block major then depth - 1 else depth

-- whether a statement, with so many blocks open, lets the units of a text be carried out as they are written: no jump, no macro, no UNITS in a block
abbrev pub is_straight_at : ℕ → Bool → List ℕ → Bool
is_straight_at depth units major = not (bends major || (units && not (nat_eq depth 0)))

unfoldable pub is_straight : ℕ → Logical → Bool
is_straight depth l = is_straight_at depth (is_units (row_in (words_of l))) (major_of (words_of l))

-- whether all statements do
abbrev pub straight_from : ℕ → List Logical → Bool
straight_from depth [] = true
straight_from depth (l ∷ ls) = is_straight depth l && straight_from (depth_behind depth (major_of (words_of l))) ls

-- lengths of one unit
abbrev pub all_in : Unit → Lengths
all_in u = record { unit = u; several = false }

-- lengths of several units, the first of which is this one
abbrev pub from_unit : Unit → Lengths
from_unit u = record { unit = u; several = true }

-- the lengths of a text that begins with a unit: where it sets others, by them if it is carried out as it is written, else those of the language
abbrev pub lengths_if : Option Unit → List Logical → Lengths
lengths_if None ls = all_in Millimetre
lengths_if (Some u) ls = if all_agree u ls then all_in u else if straight_from 0 ls then from_unit u else all_in Millimetre

-- the lengths of a text
abbrev pub lengths_of : List Logical → Lengths
lengths_of ls = lengths_if (opening_unit ls) ls
