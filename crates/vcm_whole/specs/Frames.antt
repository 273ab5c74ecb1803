-- The frames that the statements of a text make or recall by their names.
use Rattle.std.specs.Prelude.{ℕ, Bool, true, false, not, ◌&&◌, ◌||◌, nat_eq, if◌then◌else◌, List, [], ◌∷◌, Option, Some, None}
use Rattle.std.specs.List.{list_any, flat_map}
use Rattle.std.specs.Str.{bytes_eq}
use Rattle.vcm_spec.specs.Program.{is_same_name}
use Rattle.vcm_forms.specs.declared.statement.Form.{Form}
use Rattle.vcm_forms.specs.declared.statement.Form.TheVariants.{Shift, Rotation, Restore, Macro}
use Rattle.vcm_forms.specs.declared.statement.Statement.{Statement}
use Rattle.vcm_events.specs.Spots.{slanted_name}
use Rattle.vcm_events.specs.Datums.{is_origin}
use Rattle.vcm_forms.specs.declared.statement.Offset.{Offset}
use Rattle.vcm_whole.specs.declared.frames.FrameLine.{FrameLine}

-- the frame that a statement makes or recalls by its name, if it does: a slanted point is a shift under a name of its own
abbrev pub frame_in : Form → Option (List ℕ)
frame_in (Shift l os) = if is_same_name slanted_name l then None else Some l
frame_in (Rotation l axis n) = Some l
frame_in (Restore l) = Some l
frame_in f = None

-- whether shifts are those of a frame of something that isn't known, or by datums
abbrev pub is_left : List Offset → Bool
is_left [] = true
is_left (o ∷ os) = is_origin o.length

-- whether a statement makes a frame of this name by shifts or a turn
abbrev pub makes : List ℕ → Form → Bool
makes name (Shift l os) = not (is_left os) && bytes_eq l name
makes name (Rotation l axis n) = bytes_eq l name
makes name f = false

-- whether it makes one of something that isn't known, or by datums
abbrev pub leaves : List ℕ → Form → Bool
leaves name (Shift l os) = is_left os && bytes_eq l name
leaves name f = false

-- whether it begins a macro, in which other frames may be made under the names of its parameters
abbrev pub begins_macro : Form → Bool
begins_macro (Macro m ps) = true
begins_macro f = false

-- whether a frame of this name is one that the text makes by shifts or turns, or may make in a macro
abbrev pub may_make : List Statement → List ℕ → Bool
may_make ss name = list_any (λ s. makes name s.form) ss || list_any (λ s. begins_macro s.form) ss

-- whether a frame that is given is taken at a statement: that makes one of something that isn't known or by datums, or recalls one that the text makes so, or doesn't make
abbrev pub takes_given : List Statement → Form → Bool
takes_given ss (Shift l os) = is_left os
takes_given ss (Restore l) = list_any (λ s. leaves l s.form) ss || not (may_make ss l)
takes_given ss f = false

-- a statement with the frame that it names, if it names one
abbrev pub named_by : List Statement → Statement → Option (List ℕ) → List FrameLine
named_by ss s None = []
named_by ss s (Some l) = record { line = s.line; name = l; takes_given = takes_given ss s.form } ∷ []

-- the same; on the first line stand the frames that are given
abbrev pub named_on : List Statement → Statement → List FrameLine
named_on ss s = if nat_eq s.line 1 then [] else named_by ss s (frame_in s.form)

-- the lines of statements that make or recall a frame by its name, in order
abbrev pub named_frames : List Statement → List FrameLine
named_frames ss = flat_map (named_on ss) ss
