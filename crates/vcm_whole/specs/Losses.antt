-- Which lines of a text may lose something that is known, or aren't followed.
use Rattle.std.specs.Prelude.{ℕ, pos, ◌&&◌, not, nat_eq, codes, Bool, true, false, if◌then◌else◌, List, [], ◌∷◌, ◌++◌, Option, Some, None}
use Rattle.std.specs.Ordering.{int_eq}
use Rattle.std.specs.Str.{bytes_eq}
use Rattle.vcm_num.specs.declared.number.Literal.TheVariants.{Int}
use Rattle.vcm_expr.specs.declared.expression.Term.{Term}
use Rattle.vcm_expr.specs.declared.expression.Term.TheVariants.{Number, Variable as Named}
use Rattle.vcm_expr.specs.Source.{leaf_in}
use Rattle.vcm_forms.specs.declared.statement.Form.{Form}
use Rattle.vcm_forms.specs.declared.statement.Form.TheVariants.{Assignment, Test, Choose, Repeat, Feature, Shift, Query}
use Rattle.vcm_forms.specs.declared.statement.Offset.{Offset}
use Rattle.vcm_forms.specs.declared.statement.Statement.{Statement}
use Rattle.vcm_events.specs.declared.event.Event.{Event}
use Rattle.vcm_events.specs.declared.event.Event.TheVariants as events
use Rattle.std.specs.List.{list_any}
use Rattle.vcm_lines.specs.Lexemes.{Lexeme, Run}
use Rattle.vcm_heads.specs.Heads.{found_or, major_of, behind_of, first_field}
use Rattle.vcm_lines.specs.declared.logical.Logical.{Logical}
use Rattle.vcm_heads.specs.declared.rows.Row.{Row}
use Rattle.vcm_heads.specs.declared.rows.Row.TheVariants as rows
use Rattle.vcm_heads.specs.Rows.{row_in, words_of}
use Rattle.vcm_whole.specs.declared.losses.Wanted.{Wanted}
use Rattle.vcm_whole.specs.declared.losses.Wanted.TheVariants as wanted
use Rattle.vcm_spec.specs.Program.{is_same_name}
use Rattle.vcm_events.specs.Events.{event_named}
use Rattle.vcm_events.specs.Spots.{slanted_name}

-- whether an expression is the one whose value isn't known
abbrev pub is_unknown : Option Term → Bool
is_unknown (Some (Named name e)) = bytes_eq name (codes "0")
is_unknown t = false

-- whether it is 0
abbrev pub is_zero : Option Term → Bool
is_zero (Some (Number (Int n))) = int_eq n (pos 0)
is_zero t = false

-- whether by an event something is lost or not followed
abbrev pub event_loses : Event → Option Term → Bool
event_loses events.Untried t = true
event_loses events.UntriedPoint t = true
event_loses events.Ends t = true
event_loses events.Origins t = true
event_loses events.CaseValue t = false
event_loses events.Points t = is_unknown t
event_loses e t = is_zero t

-- whether by an assignment: of an event, or of a variable
abbrev pub assignment_loses : Option Event → Option Term → Bool
assignment_loses None t = is_unknown t
assignment_loses (Some e) t = event_loses e t

-- whether by something that happens to a feature or a frame by its name
abbrev pub happening_loses : Option Event → Bool
happening_loses (Some events.DropFrame) = true
happening_loses (Some events.DropFeature) = true
happening_loses e = false

-- whether by a shift: one that isn't known loses, and a slanted point, several lengths, is approached and not touched
abbrev pub shift_loses : List ℕ → List Offset → Bool
shift_loses l [] = true
shift_loses l (x ∷ []) = false
shift_loses l (x ∷ y ∷ os) = is_same_name slanted_name l

-- whether by a statement
abbrev pub loses : Form → Bool
loses (Assignment t value) = assignment_loses (event_named t.name) (leaf_in value)
loses (Test c) = is_unknown (leaf_in c)
loses (Choose c) = is_unknown (leaf_in c)
loses (Repeat r) = is_unknown (leaf_in r.limit)
loses (Feature l p axis) = is_unknown (leaf_in p.x)
loses (Shift l os) = shift_loses l os
loses (Query t side l word) = happening_loses (event_named t.name)
loses f = false

-- whether a row is the one that is wanted
abbrev pub is_wanted : Wanted → Row → Bool
is_wanted wanted.Unit rows.Units = true
is_wanted wanted.Mode rows.Mode = true
is_wanted wanted.Sensor rows.Sensor = true
is_wanted w r = false

-- whether statements of a row move the probe, or say a place
abbrev pub is_moving : Row → Bool
is_moving rows.Motion = true
is_moving rows.Target = true
is_moving rows.Touch = true
is_moving rows.Scan = true
is_moving rows.From = true
is_moving rows.Aim = true
is_moving r = false

-- whether a macro is open behind a statement
abbrev pub inside_behind : Bool → List ℕ → Bool
inside_behind inside major = if bytes_eq major (codes "MACRO") then true else if bytes_eq major (codes "ENDMAC") then false else inside

-- the same, behind a statement
unfoldable pub inside_after : Bool → Logical → Bool
inside_after inside l = inside_behind inside (major_of (words_of l))

-- what a statement decides: it is the wanted one, or it moves, in no macro, before that; or it decides nothing
unfoldable pub decided : Wanted → Bool → Logical → Option Bool
decided w inside l =
    if is_wanted w (row_in (words_of l)) then Some true
    else if not inside && is_moving (row_in (words_of l)) then Some false
    else None

-- whether a wanted statement stands before the first one that moves, in a macro or not
abbrev pub says_first : Wanted → Bool → List Logical → Bool
says_first w inside [] = false
says_first w inside (l ∷ ls) = found_or (says_first w (inside_after inside l) ls) (decided w inside l)

-- whether a text says its unit, or its mode, or selects a sensor, before it moves
abbrev pub says_unit : List Logical → Bool
says_unit ls = says_first wanted.Unit false ls

abbrev pub says_mode : List Logical → Bool
says_mode ls = says_first wanted.Mode false ls

abbrev pub says_sensor : List Logical → Bool
says_sensor ls = says_first wanted.Sensor false ls

-- whether a word is the one for the depth of the machine's own points
abbrev pub is_depth : Lexeme → Bool
is_depth (Run w) = bytes_eq w (codes "DEPTH")
is_depth w = false

-- whether a statement goes by such a word and doesn't switch it off; FINPOS is about corners where it is off
abbrev pub is_unlooked : List ℕ → List Lexeme → Bool
is_unlooked word ws =
    bytes_eq (major_of ws) word
    && (if bytes_eq word (codes "FINPOS") then bytes_eq (first_field (behind_of ws)) (codes "OFF") else not (bytes_eq (first_field (behind_of ws)) (codes "OFF")))

-- whether a statement sets that depth
abbrev pub sets_depth : List Lexeme → Bool
sets_depth ws = bytes_eq (major_of ws) (codes "SNSET") && list_any is_depth ws

-- whether a statement isn't looked at for this word
abbrev pub is_passed_over : List ℕ → List Lexeme → Bool
is_passed_over word ws = if bytes_eq word (codes "DEPTH") then sets_depth ws else is_unlooked word ws

-- whether a text has one
unfoldable pub has_unlooked : List Logical → List ℕ → Bool
has_unlooked ls word = list_any (λ l. is_passed_over word (words_of l)) ls

-- a word, where a text has a statement that isn't looked at for it
abbrev pub unlooked_by : List Logical → List ℕ → List (List ℕ)
unlooked_by ls word = if has_unlooked ls word then word ∷ [] else []

-- those of corners
unfoldable pub unlooked_corners : List Logical → List (List ℕ)
unlooked_corners ls = unlooked_by ls (codes "FLY") ++ unlooked_by ls (codes "FINPOS")

-- those of compensations
unfoldable pub unlooked_compensations : List Logical → List (List ℕ)
unlooked_compensations ls = unlooked_by ls (codes "TECOMP") ++ (unlooked_by ls (codes "GECOMP") ++ unlooked_by ls (codes "CUTCOM"))

-- those of where the machine goes on after a fault, and of qualifications
unfoldable pub unlooked_faults : List Logical → List (List ℕ)
unlooked_faults ls = unlooked_by ls (codes "ERROR") ++ (unlooked_by ls (codes "BADTST") ++ unlooked_by ls (codes "CALIB"))

-- the words of a text that aren't looked at, the depth of the machine's own points the last
abbrev pub unlooked : List Logical → List (List ℕ)
unlooked ls = unlooked_corners ls ++ (unlooked_compensations ls ++ (unlooked_faults ls ++ unlooked_by ls (codes "DEPTH")))

-- the lines of such statements behind this line, each once
abbrev pub lossy_from : ℕ → List Statement → List ℕ
lossy_from last [] = []
lossy_from last (s ∷ ss) =
    if loses s.form && not (nat_eq s.line last) then s.line ∷ lossy_from s.line ss else lossy_from last ss

-- the lines by whose statements something may be lost or isn't followed, in order
abbrev pub lossy_lines : List Statement → List ℕ
lossy_lines ss = lossy_from 0 ss
