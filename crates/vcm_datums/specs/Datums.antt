-- The datums of a text that are points of its features, and the frames whose origins lie on them.
use Rattle.std.specs.Prelude.{ℕ, codes, Bool, true, false, not, ◌&&◌, ◌||◌, is_some, if◌then◌else◌, List, [], ◌∷◌, Option, Some, None}
use Rattle.std.specs.List.{list_all, list_any, flat_map}
use Rattle.std.specs.Str.{bytes_eq}
use Rattle.vcm_num.specs.Words.{look_up}
use Rattle.vcm_spec.specs.declared.words.FrameAxis.{FrameAxis}
use Rattle.vcm_spec.specs.declared.words.FrameAxis.TheVariants.{X, Y, Z}
use Rattle.vcm_items.specs.NameBytes.{is_name}
use Rattle.vcm_lines.specs.declared.logical.Logical.{Logical}
use Rattle.vcm_lines.specs.Lexemes.{Lexeme}
use Rattle.vcm_forms.specs.declared.statement.Parameter.{Parameter}
use Rattle.vcm_forms.specs.declared.statement.Form.{Form}
use Rattle.vcm_forms.specs.declared.statement.Form.TheVariants.{Macro}
use Rattle.vcm_forms.specs.declared.statement.Statement.{Statement}
use Rattle.vcm_heads.specs.declared.heads.Mark.TheVariants as marks
use Rattle.vcm_heads.specs.declared.rows.Row.{Row}
use Rattle.vcm_heads.specs.declared.rows.Row.TheVariants as row
use Rattle.vcm_heads.specs.Steps.{◌>>=◌}
use Rattle.vcm_heads.specs.Heads.{past, run_at, title_at, major_of, behind_of}
use Rattle.vcm_heads.specs.Rows.{row_in, words_of}
use Rattle.vcm_datums.specs.declared.datums.Datum.{Datum}
use Rattle.vcm_datums.specs.declared.origins.Origin.{Origin}
use Rattle.vcm_datums.specs.declared.origins.Origins.{Origins}
use Rattle.vcm_datums.specs.declared.origins.Made.{Made}

-- ---- datums

-- two names with nothing behind them, as a datum of a line
abbrev pub datum_of : ℕ → (f d : List ℕ) → List Lexeme → Option Datum
datum_of line f d [] = if is_name f && is_name d then Some (record { line = line; name = d; feature = f }) else None
datum_of line f d (w ∷ ws) = None

-- the datum that a statement on a line defines: DATDEF/FA(f),DAT(d)
abbrev pub datum_at : ℕ → List Lexeme → Option Datum
datum_at line behind = do
  fields ← past marks.Slash behind
  f ← title_at (codes "FA") fields
  r ← past marks.Comma f.1
  d ← title_at (codes "DAT") r
  datum_of line f.0 d.0 d.1

-- whether statements of a row define datums
abbrev pub is_datum : Row → Bool
is_datum row.Datum = true
is_datum r = false

-- the datum that a statement defines, if it defines one
abbrev pub datum_in : Logical → Option Datum
datum_in l = if is_datum (row_in (words_of l)) then datum_at l.line (behind_of (words_of l)) else None

-- whether a statement defines no datum, or one as a measured feature
abbrev pub is_plain : Logical → Bool
is_plain l = not (is_datum (row_in (words_of l))) || is_some (datum_in l)

-- a datum, if there is one
abbrev pub listed : Option Datum → List Datum
listed None = []
listed (Some d) = d ∷ []

-- the same of a statement
abbrev pub datums_by : Logical → List Datum
datums_by l = listed (datum_in l)

-- whether one of the parameters has this name
abbrev pub is_one : List ℕ → List Parameter → Bool
is_one name ps = list_any (λ p. bytes_eq p.name name) ps

-- whether a statement is a MACRO with a parameter of this name
abbrev pub has_parameter : List ℕ → Form → Bool
has_parameter name (Macro m ps) = is_one name ps
has_parameter name f = false

-- whether one of the statements is: then the name may stand for another one
abbrev pub is_parameter : List Statement → List ℕ → Bool
is_parameter ss name = list_any (λ s. has_parameter name s.form) ss

-- whether the names of a datum stand for nothing else
abbrev pub is_fixed : List Statement → Datum → Bool
is_fixed ss d = not (is_parameter ss d.name) && not (is_parameter ss d.feature)

-- these datums, where their names stand for nothing else
abbrev pub if_fixed : List Statement → List Datum → List Datum
if_fixed ss ds = if list_all (is_fixed ss) ds then ds else []

-- the datums of a text, none where one of them is defined in another way
unfoldable pub datums_of : List Logical → List Statement → List Datum
datums_of ls ss = if list_all is_plain ls then if_fixed ss (flat_map datums_by ls) else []

-- ---- which feature a datum is

-- whether a datum is this feature, if it has this name
abbrev pub agrees : (name f : List ℕ) → Datum → Bool
agrees name f d = not (bytes_eq d.name name) || bytes_eq d.feature f

-- the feature of the first datum with this name
abbrev pub first_feature : List ℕ → List Datum → Option (List ℕ)
first_feature name [] = None
first_feature name (d ∷ ds) = if bytes_eq d.name name then Some d.feature else first_feature name ds

-- a feature, where all datums with this name are it
abbrev pub agreed : List ℕ → List Datum → Option (List ℕ) → Option (List ℕ)
agreed name ds None = None
agreed name ds (Some f) = if list_all (agrees name f) ds then Some f else None

-- the feature that a datum is, wherever the text defines it
abbrev pub feature_for : List Datum → List ℕ → Option (List ℕ)
feature_for ds name = agreed name ds (first_feature name ds)

-- ---- frames by datums

-- the axis of an origin by its word
abbrev pub axis_of : List ℕ → Option FrameAxis
axis_of word = look_up ((codes "XORIG", X) ∷ (codes "YORIG", Y) ∷ (codes "ZORIG", Z) ∷ []) word

-- an origin, and the words behind it: DAT(d),XORIG
abbrev pub origin_at : List Datum → List Lexeme → Option (Origin × List Lexeme)
origin_at ds ws = do
  d ← title_at (codes "DAT") ws
  r ← past marks.Comma d.1
  o ← run_at r
  axis ← axis_of o.0
  f ← feature_for ds d.0
  Some (record { axis = axis; feature = f }, o.1)

-- one more origin behind a comma, and the words behind it, if there are words
abbrev pub next_origin : List Datum → List Lexeme → Option (Option Origin × List Lexeme)
next_origin ds [] = Some (None, [])
next_origin ds (w ∷ ws) = do
  r ← past marks.Comma (w ∷ ws)
  o ← origin_at ds r
  Some (Some o.0, o.1)

-- whether two axes are different ones
abbrev pub are_different : FrameAxis → FrameAxis → Bool
are_different X X = false
are_different Y Y = false
are_different Z Z = false
are_different a b = true

-- whether an origin lies along another axis than another one, if that is there
abbrev pub is_apart : Origin → Option Origin → Bool
is_apart o None = true
is_apart o (Some p) = are_different o.axis p.axis

-- the same of two that may be there
abbrev pub are_apart : Option Origin → Option Origin → Bool
are_apart None q = true
are_apart (Some p) q = is_apart p q

-- one, two or three origins along different axes, with nothing behind them
abbrev pub origins_of : Origin → (b c : Option Origin) → List Lexeme → Option Origins
origins_of a b c [] = if is_apart a b && (is_apart a c && are_apart b c) then Some (record { first = a; second = b; third = c }) else None
origins_of a b c (w ∷ ws) = None

-- the origins of a frame: DATSET/DAT(d),ZORIG,DAT(e),XORIG,DAT(f),YORIG
abbrev pub origins_at : List Datum → List Lexeme → Option Origins
origins_at ds behind = do
  fields ← past marks.Slash behind
  a ← origin_at ds fields
  b ← next_origin ds a.1
  c ← next_origin ds b.1
  origins_of a.0 b.0 c.0 c.1

-- a frame that is made on a line by its origins, if it is
abbrev pub made_on : ℕ → Option Origins → List Made
made_on line None = []
made_on line (Some o) = record { line = line; origins = o } ∷ []

-- the same of a statement, which is a DATSET
abbrev pub made_by : List Datum → Logical → List Made
made_by ds l = if bytes_eq (major_of (words_of l)) (codes "DATSET") then made_on l.line (origins_at ds (behind_of (words_of l))) else []

-- the frames that statements make by their origins
abbrev pub made_in : List Datum → List Logical → List Made
made_in ds ls = flat_map (made_by ds) ls
