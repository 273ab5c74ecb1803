-- The statements of a text, with those about its datums.
use Rattle.std.specs.Prelude.{ℕ, nat_eq, Bool, true, false, if◌then◌else◌, List, [], ◌∷◌, ◌++◌, map, Option, Some, None}
use Rattle.std.specs.List.{flat_map}
use Rattle.std.specs.Str.{bytes_eq}
use Rattle.vcm_lines.specs.declared.logical.Logical.{Logical}
use Rattle.vcm_forms.specs.declared.statement.Offset.{Offset}
use Rattle.vcm_forms.specs.declared.statement.Form.{Form}
use Rattle.vcm_forms.specs.declared.statement.Form.TheVariants.{Assignment, Shift}
use Rattle.vcm_forms.specs.declared.statement.Statement.{Statement}
use Rattle.vcm_events.specs.declared.event.Event.TheVariants as events
use Rattle.vcm_events.specs.Events.{event_name, gained}
use Rattle.vcm_events.specs.Spots.{leg}
use Rattle.vcm_events.specs.Datums.{bound, origin_on, origin_length}
use Rattle.vcm_datums.specs.declared.datums.Datum.{Datum}
use Rattle.vcm_datums.specs.declared.origins.Origin.{Origin}
use Rattle.vcm_datums.specs.declared.origins.Origins.{Origins}
use Rattle.vcm_datums.specs.declared.origins.Made.{Made}
use Rattle.vcm_datums.specs.Datums.{datums_of, made_in}

-- the feature of the datum that is defined on a line, if it is one
abbrev pub bound_on : ℕ → List Datum → Option (List ℕ)
bound_on line [] = None
bound_on line (d ∷ ds) = if nat_eq d.line line then Some d.feature else bound_on line ds

-- the origins of the frame that is made on a line, if it is made by them
abbrev pub origins_on : ℕ → List Made → Option Origins
origins_on line [] = None
origins_on line (m ∷ ms) = if nat_eq m.line line then Some m.origins else origins_on line ms

-- a datum is defined as a feature, if it is one that is followed
abbrev pub bound_or : Form → Option (List ℕ) → Form
bound_or f None = f
bound_or f (Some feature) = bound feature

-- an origin
abbrev pub origin_said : Origin → Form
origin_said o = origin_on o.axis o.feature

-- an origin, if it is there
abbrev pub origins_said : Option Origin → List Form
origins_said None = []
origins_said (Some o) = origin_said o ∷ []

-- the shift to an origin
abbrev pub shift_to : Origin → Offset
shift_to o = leg o.axis origin_length

-- the same, if it is there
abbrev pub shifts_to : Option Origin → List Offset
shifts_to None = []
shifts_to (Some o) = shift_to o ∷ []

-- a frame by its origins, under its name
abbrev pub framed : List ℕ → Origins → List Form
framed name o =
    gained events.Origins ∷ origin_said o.first ∷ (origins_said o.second ++ (origins_said o.third
    ++ Shift name (shift_to o.first ∷ (shifts_to o.second ++ shifts_to o.third)) ∷ []))

-- a frame of something that isn't known, or by its origins
abbrev pub framed_or : List ℕ → Option Origins → List Form
framed_or name None = Shift name [] ∷ []
framed_or name (Some o) = framed name o

-- a frame that the text makes by shifts, or of something that isn't known
abbrev pub shifted : List Made → ℕ → List ℕ → List Offset → List Form
shifted ms line name [] = framed_or name (origins_on line ms)
shifted ms line name (o ∷ os) = Shift name (o ∷ os) ∷ []

-- an assignment to this name, or the definition of a datum
abbrev pub assigned : List Datum → ℕ → List ℕ → Form → List Form
assigned ds line name f = (if bytes_eq name (event_name events.Bind) then bound_or f (bound_on line ds) else f) ∷ []

-- what a statement on a line is, with these datums and frames
abbrev pub dated_form : List Datum → List Made → ℕ → Form → List Form
dated_form ds ms line (Assignment t value) = assigned ds line t.name (Assignment t value)
dated_form ds ms line (Shift name os) = shifted ms line name os
dated_form ds ms line f = f ∷ []

-- forms as statements of a line
abbrev pub on_line : ℕ → List Form → List Statement
on_line line fs = map (λ f. record { line = line; form = f }) fs

-- a statement, with these datums and frames
abbrev pub dated_statement : List Datum → List Made → Statement → List Statement
dated_statement ds ms s = on_line s.line (dated_form ds ms s.line s.form)

-- statements, with these datums and the frames that they make
abbrev pub dated_by : List Datum → List Made → List Statement → List Statement
dated_by ds ms ss = flat_map (dated_statement ds ms) ss

-- what the lines of a text say, with these datums
abbrev pub dated_with : List Datum → List Logical → List Statement → List Statement
dated_with ds ls ss = dated_by ds (made_in ds ls) ss

-- what the lines of a text say, with its datums
abbrev pub dated : List Logical → List Statement → List Statement
dated ls ss = dated_with (datums_of ls ss) ls ss
