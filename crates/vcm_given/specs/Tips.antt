-- Sensors whose tips have another width than that of the part.
use Rattle.std.specs.Prelude.{ℕ, ℤ, pos, ◌*ℤ◌, codes, ◌&&◌, Bool, true, false, nat_eq, if◌then◌else◌, List, [], ◌∷◌, Option, Some, None}
use Rattle.std.specs.List.{list_any, flat_map}
use Rattle.std.specs.Ordering.{int_eq}
use Rattle.std.specs.Str.{bytes_eq}
use Rattle.vcm_lines.specs.declared.logical.Logical.{Logical}
use Rattle.vcm_lines.specs.Lexemes.{Lexeme}
use Rattle.vcm_heads.specs.declared.heads.Mark.TheVariants as marks
use Rattle.vcm_heads.specs.declared.rows.Row.{Row}
use Rattle.vcm_heads.specs.declared.rows.Row.TheVariants as row
use Rattle.vcm_heads.specs.Heads.{past, title_at, major_of, behind_of}
use Rattle.vcm_heads.specs.Rows.{row_in, words_of}
use Rattle.vcm_given.specs.declared.tips.Width.{Width}
use Rattle.vcm_given.specs.declared.tips.Width.TheVariants.{Wide, Unread, Unsaid}
use Rattle.vcm_given.specs.declared.tips.OtherTip.{OtherTip}
use Rattle.vcm_given.specs.declared.choices.GivenProbe.{GivenProbe}
use Rattle.vcm_given.specs.Fields.{last_of}
use Rattle.vcm_given.specs.Spoken.{no_probes}

-- a title that is found, or else another one
abbrev pub either_title : (a b : Option (List ℕ × List Lexeme)) → Option (List ℕ × List Lexeme)
either_title None b = b
either_title (Some a) b = Some a

-- the sensor that fields begin with: S(l) or SA(l)
abbrev pub sensor_in : Option (List Lexeme) → Option (List ℕ × List Lexeme)
sensor_in None = None
sensor_in (Some ws) = either_title (title_at (codes "S") ws) (title_at (codes "SA") ws)

-- whether a statement defines the sensor with this name
abbrev pub defines : List ℕ → Option (List ℕ × List Lexeme) → Bool
defines name None = false
defines name (Some l) = bytes_eq l.0 name

-- whether it does by its words: S(l)=SNSDEF
abbrev pub is_definition : List ℕ → List Lexeme → Bool
is_definition name ws = bytes_eq (major_of ws) (codes "SNSDEF") && defines name (title_at (codes "S") ws)

-- the width of the tip that a statement defines, in millionths of a millimetre
abbrev pub width_in : List Lexeme → Option ℕ
width_in ws = last_of (past marks.Slash (behind_of ws))

-- whether two widths are one
abbrev pub is_same_width : (a b : Option ℕ) → Bool
is_same_width (Some a) (Some b) = nat_eq a b
is_same_width a b = false

-- one definition more: the width is known where all say the same
abbrev pub agreed : Option (Option ℕ) → Option ℕ → Option (Option ℕ)
agreed None w = Some w
agreed (Some v) w = if is_same_width v w then Some w else Some None

-- the width of the tip of the sensor with this name behind what is known of it, if it is defined
abbrev pub width_onto : List ℕ → Option (Option ℕ) → List Logical → Option (Option ℕ)
width_onto name known [] = known
width_onto name known (l ∷ ls) =
    width_onto name (if is_definition name (words_of l) then agreed known (width_in (words_of l)) else known) ls

-- the width of its tip, wherever the text defines it
abbrev pub width_of : List ℕ → List Logical → Option (Option ℕ)
width_of name ls = width_onto name None ls

-- a tip of this width, beside one of this half width in micrometres
abbrev pub other_width : ℤ → Option (Option ℕ) → Option Width
other_width tip None = Some Unsaid
other_width tip (Some None) = Some Unread
other_width tip (Some (Some w)) = if int_eq (pos w) (tip *ℤ pos 2000) then None else Some (Wide w)

-- a tip on a line, if there is one
abbrev pub tip_on : ℕ → Option Width → List OtherTip
tip_on line None = []
tip_on line (Some w) = record { line = line; width = w } ∷ []

-- half the width of the tip of the probe with this name, if the file has one
abbrev pub tip_named : List ℕ → List GivenProbe → Option ℤ
tip_named name [] = None
tip_named name (p ∷ ps) = if bytes_eq p.name name then Some p.tip else tip_named name ps

-- that of the tip that is put on by this name: of the part, where no file has probes
abbrev pub own_tip : List GivenProbe → ℤ → List ℕ → Option ℤ
own_tip ps tip name = if no_probes ps then Some tip else tip_named name ps

-- the width that is defined, on a line that puts on a tip of this half width, if it is known
abbrev pub tip_beside : ℕ → Option ℤ → Option (Option ℕ) → List OtherTip
tip_beside line None w = []
tip_beside line (Some tip) w = tip_on line (other_width tip w)

-- the tip of a sensor that is selected on a line
abbrev pub selected_on : List GivenProbe → ℤ → List Logical → ℕ → Option (List ℕ × List Lexeme) → List OtherTip
selected_on ps tip ls line None = []
selected_on ps tip ls line (Some l) = tip_beside line (own_tip ps tip l.0) (width_of l.0 ls)

-- whether a row is that of SNSLCT
abbrev pub is_selection : Row → Bool
is_selection row.Sensor = true
is_selection r = false

-- the tip that a statement puts on, where it isn't that of the part, or of its probe
abbrev pub tip_by : List GivenProbe → ℤ → List Logical → Logical → List OtherTip
tip_by ps tip ls l =
    if is_selection (row_in (words_of l)) then selected_on ps tip ls l.line (sensor_in (past marks.Slash (behind_of (words_of l)))) else []

-- the tips that a text puts on that aren't that of the part, of this half width, or that of their probe
abbrev pub other_tips : List GivenProbe → ℤ → List Logical → List OtherTip
other_tips ps tip ls = flat_map (tip_by ps tip ls) ls

-- whether a tip is another one: its width is, or can't be read
abbrev pub is_other : Width → Bool
is_other Unsaid = false
is_other w = true

-- whether one is put on on this line
abbrev pub is_other_on : ℕ → OtherTip → Bool
is_other_on line t = nat_eq t.line line && is_other t.width

-- whether one of them is
abbrev pub is_other_at : ℕ → List OtherTip → Bool
is_other_at line tips = list_any (is_other_on line) tips
