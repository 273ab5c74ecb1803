-- What statements say of the frames, features and variables that they name.
use Rattle.std.specs.Prelude.{ℕ, codes, Bool, true, false, ◌||◌, if◌then◌else◌, List, [], ◌∷◌, ◌++◌, Option, Some, None}
use Rattle.std.specs.List.{list_any, flat_map}
use Rattle.std.specs.Str.{bytes_eq}
use Rattle.vcm_items.specs.NameBytes.{is_name, is_variable_name}
use Rattle.vcm_lines.specs.Lexemes.{Lexeme, Run, Quoted, Other}
use Rattle.vcm_forms.specs.Statements.{as_read}
use Rattle.vcm_forms.specs.declared.statement.Form.{Form}
use Rattle.vcm_forms.specs.declared.statement.Form.TheVariants.{Assignment}
use Rattle.vcm_events.specs.declared.event.Event.{Event}
use Rattle.vcm_events.specs.declared.event.Event.TheVariants as events
use Rattle.vcm_events.specs.Events.{lost, gained}
use Rattle.vcm_events.specs.Datums.{happens_to}
use Rattle.vcm_events.specs.Unknown.{unknown}
use Rattle.vcm_heads.specs.declared.heads.Mark.TheVariants as marks
use Rattle.vcm_heads.specs.Heads.{past, title_at}

-- ---- one frame or feature

-- something happens to what a title names, if that is a name, or else this is said
abbrev pub to_named : Event → List Form → Option (List ℕ × List Lexeme) → List Form
to_named e fs None = fs
to_named e fs (Some l) = if is_name l.0 then happens_to e l.0 ∷ [] else fs

-- a title with nothing behind it
abbrev pub alone : Option (List ℕ × List Lexeme) → Option (List ℕ × List Lexeme)
alone None = None
alone (Some (l, [])) = Some (l, [])
alone (Some (l, w ∷ ws)) = None

-- a title that is found, or else another one
abbrev pub either_title : (a b : Option (List ℕ × List Lexeme)) → Option (List ℕ × List Lexeme)
either_title None b = b
either_title (Some a) b = Some a

-- a title behind these letters or behind those
abbrev pub title_in : (some others : List ℕ) → List Lexeme → Option (List ℕ × List Lexeme)
title_in some others ws = either_title (title_at some ws) (title_at others ws)

-- the same in fields, if there are fields
abbrev pub title_of : (some others : List ℕ) → Option (List Lexeme) → Option (List ℕ × List Lexeme)
title_of some others None = None
title_of some others (Some fields) = title_in some others fields

-- ---- DELETE

-- all frames and all features may be deleted
abbrev pub all_deleted : List Form
all_deleted = lost events.Frames ∷ lost events.Features ∷ []

-- a frame by its name, or a feature by its name, or a sensor, which nothing here hangs on; else all
abbrev pub deleted_by : (frame feature sensor : Option (List ℕ × List Lexeme)) → List Form
deleted_by None None None = all_deleted
deleted_by None None (Some s) = []
deleted_by None (Some f) s = to_named events.DropFeature all_deleted (Some f)
deleted_by (Some d) f s = to_named events.DropFrame all_deleted (Some d)

-- DELETE/D(l), DA(l), F(l), FA(l), S(l) and SA(l), with nothing behind them
abbrev pub deleted : Option (List Lexeme) → List Form
deleted fields = deleted_by (alone (title_of (codes "D") (codes "DA") fields)) (alone (title_of (codes "F") (codes "FA") fields)) (alone (title_of (codes "S") (codes "SA") fields))

-- ---- RECALL and CONST

-- a feature that is recalled with its values, or all where it has no name
abbrev pub recalled : Event → List ℕ → Option (List Lexeme) → List Form
recalled e letters None = lost events.Features ∷ []
recalled e letters (Some fields) = to_named e (lost events.Features ∷ []) (title_at letters fields)

-- a feature that is made of others
abbrev pub remade : Option (List ℕ × List Lexeme) → List Form
remade l = to_named events.Remake (lost events.Features ∷ []) l

-- ---- SAVE

-- a frame that is saved on a device, whatever stands behind it
abbrev pub stored_by : Option (List ℕ × List Lexeme) → List Form
stored_by None = []
stored_by (Some d) = to_named events.StoreFrame (gained events.Saving ∷ []) (Some d)

-- SAVE/D(l), SAVE/DA(l)
abbrev pub stored : Option (List Lexeme) → List Form
stored fields = stored_by (title_of (codes "D") (codes "DA") fields)

-- ---- values

-- a variable has a value that isn't known
abbrev pub variable_lost : List ℕ → List Form
variable_lost word = if is_variable_name word then Assignment (as_read word) unknown ∷ [] else []

-- what a word names isn't known any more: a variable
abbrev pub word_lost : Lexeme → List Form
word_lost (Run word) = variable_lost word
word_lost w = []

-- all that the words name
abbrev pub words_lost : List Lexeme → List Form
words_lost ws = flat_map word_lost ws

-- the features that words name, as F(l) and FA(l)
abbrev pub features_lost : List Lexeme → List Form
features_lost [] = []
features_lost (w ∷ ws) = to_named events.DropFeature [] (title_in (codes "F") (codes "FA") (w ∷ ws)) ++ features_lost ws

-- whether a word may name anything: a mark as in A[I] or @V
abbrev pub is_open_mark : Lexeme → Bool
is_open_mark Other = true
is_open_mark w = false

-- whether it is a text
abbrev pub is_text : Lexeme → Bool
is_text (Quoted t) = true
is_text w = false

-- all variables and all features may have other values
abbrev pub all_values : List Form
all_values = lost events.Values ∷ lost events.Features ∷ []

-- whether words name all that they change; names of features may stand in quotes
abbrev pub name_all : (major : List ℕ) → List Lexeme → Bool
name_all major ws =
    if list_any is_open_mark ws then false
    else if bytes_eq major (codes "XTRACT") || bytes_eq major (codes "PTBUFF") then (if list_any is_text ws then false else true)
    else true

-- READ, PROMPT, VALUE, XTRACT and PTBUFF: the variables and features that they name have other values
abbrev pub values_said : (major : List ℕ) → List Lexeme → List Form
values_said major ws = if name_all major ws then words_lost ws ++ features_lost ws else all_values
