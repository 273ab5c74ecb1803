-- What a text says is what its statements say.
use Rattle.std.proofs.Common.{◌≡◌, ◌⊎◌, inl, inr, ℕ, Bool, true, false, ◌&&◌, nat_eq, List, [], ◌∷◌, ◌++◌, Option, Some, None, Result, Ok, Err, refl, sym, ap, ◌∙◌, arith}
use Rattle.std.specs.Prelude.{if◌then◌else◌, codes, ℤ, not, is_some}
use Rattle.std.specs.List.{list_all, flat_map}
use Rattle.vcm_lines.specs.declared.fault.FaultCode.{FaultCode}
use Rattle.vcm_lines.specs.declared.logical.Logical.{Logical}
use Rattle.vcm_lines.specs.Lexemes.{Lexeme}
use Rattle.std.specs.Str.{bytes_eq}
use Rattle.vcm_items.specs.NameBytes.{is_name}
use Rattle.vcm_syntax.specs.Statements.{statement_of}
use Rattle.vcm_forms.specs.declared.statement.Form.{Form}
use Rattle.vcm_forms.specs.declared.statement.Form.TheVariants.{Opening, Measures}
use Rattle.vcm_heads.specs.declared.rows.Row.{Row}
use Rattle.vcm_heads.specs.declared.rows.Row.TheVariants as rows
use Rattle.vcm_heads.specs.Rows.{row_in, words_of, own_behind}
use Rattle.vcm_heads.specs.declared.heads.Mark.TheVariants as marks
use Rattle.vcm_heads.specs.Heads.{past, title_at, behind_of, first_field}
use Rattle.vcm_events.specs.declared.event.Event.{Event}
use Rattle.vcm_events.specs.declared.event.Event.TheVariants.{PolarMotion, PolarPoint}
use Rattle.vcm_num.specs.declared.axis.Axis.{Axis}
use Rattle.vcm_forms.specs.declared.statement.Coordinates.{Coordinates}
use Rattle.vcm_said.specs.Places.{step_at, slant_at, plane_if}
use Rattle.vcm_said.specs.Polar.{polar_motion, polar_touch}
use Rattle.vcm_said.specs.Said.{said, row_said, spelled_in, stated, or_said, motion_otherwise, touch_otherwise, is_outside, call_said, feature_lost, measure_lost, measured_at, frame_otherwise, mode_said, polar_or, sensor_said, is_plain_sensor}
use Rattle.vcm_said.specs.Named.{remade}
use Rattle.vcm_said.specs.Cases.{values_of, case_said, is_shaping}
use Rattle.vcm_said.specs.All.{on_line, said_unless, said_from, needs_planes, shape_fault}
use Rattle.vcm_whole.specs.Laws.{said_lists, NothingIsLeftOut, AreOnTheirLines, EachHasItsLine, may_be_silent, SilentOnesMoveNothing}

from_lists : (planes own : Bool) (ls : List Logical) → said_from planes own ls ≡ flat_map (λ ss. ss) (said_lists planes own ls)
from_lists planes own [] = refl
from_lists planes own (l ∷ ls) = ap (λ ss. said_unless planes own l ++ ss) (from_lists planes (own_behind own (words_of l)) ls)

pub nothing_is_left_out : NothingIsLeftOut
nothing_is_left_out ls = ap (λ ss. on_line 1 (Opening ∷ Measures ∷ []) ++ ss) (from_lists (needs_planes ls) false ls)

line_itself : (n : ℕ) → nat_eq n n ≡ true
line_itself n = grind arith

forms_on_line : (line : ℕ) (fs : List Form) → list_all (λ s. nat_eq s.line line) (on_line line fs) ≡ true
forms_on_line line [] = refl
forms_on_line line (f ∷ fs) = ap (λ b. b && list_all (λ s. nat_eq s.line line) (on_line line fs)) (line_itself line) ∙ forms_on_line line fs

unless_on_line : (planes own : Bool) (l : Logical) → list_all (λ s. nat_eq s.line l.line) (said_unless planes own l) ≡ true
unless_on_line planes true l = refl
unless_on_line planes false l = forms_on_line l.line (said planes l.line (words_of l))

lists_on_lines : (planes own : Bool) (ls : List Logical) → AreOnTheirLines ls (said_lists planes own ls)
lists_on_lines planes own [] = tt
lists_on_lines planes own (l ∷ ls) = (unless_on_line planes own l, lists_on_lines planes (own_behind own (words_of l)) ls)

pub each_has_its_line : EachHasItsLine
each_has_its_line planes ls = lists_on_lines planes false ls

-- ---- statements that say nothing

-- whether something is said
abbrev some : List Form → Bool
some [] = false
some (f ∷ fs) = true

or_some : (o : Option Form) (fs : List Form) → some fs ≡ true → some (or_said o fs) ≡ true
or_some None fs s = s
or_some (Some f) fs s = refl

motion_some : (o : Option Form) (ws : List Lexeme) → some (motion_otherwise o ws) ≡ true
motion_some None ws = refl
motion_some (Some f) ws = refl

touch_some : (o : Option Form) (ws : List Lexeme) → some (touch_otherwise o ws) ≡ true
touch_some None ws = refl
touch_some (Some f) ws = refl

call_some : (outside : Bool) (o : Option Form) → (some (call_said outside o) ≡ true) ⊎ (outside ≡ true)
call_some true o = inr refl
call_some false None = inl refl
call_some false (Some f) = inl refl

either_some : (b : Bool) (fs gs : List Form) → some fs ≡ true → some gs ≡ true → some (if b then fs else gs) ≡ true
either_some true fs gs f g = f
either_some false fs gs f g = g

feature_some : (p : Option (Coordinates × Axis)) (o : Option (List ℕ × List Lexeme)) → some (feature_lost p o) ≡ true
feature_some p None = refl
feature_some p (Some l) = either_some (is_name l.0) _ _ refl refl

measure_some : (o : Option (List ℕ × List Lexeme)) → some (measure_lost o) ≡ true
measure_some None = refl
measure_some (Some l) = either_some (is_name l.0) _ _ refl refl

frame_some : (word : List ℕ) (o : Option (List ℕ × List Lexeme)) → some (frame_otherwise word o) ≡ true
frame_some word None = refl
frame_some word (Some l) = either_some (is_name l.0) _ _ (either_some (bytes_eq word (codes "MCS")) _ _ refl refl) refl

remade_some : (o : Option (List ℕ × List Lexeme)) → some (remade o) ≡ true
remade_some None = refl
remade_some (Some l) = either_some (is_name l.0) _ _ refl refl

mode_some : (word : List ℕ) → some (mode_said word) ≡ true
mode_some word = either_some (bytes_eq word (codes "PROG")) _ _ refl (either_some (bytes_eq word (codes "AUTO")) _ _ refl refl)

polar_some : (o : Option Form) (e : Event) (fs : List Form) → some fs ≡ true → some (polar_or o e fs) ≡ true
polar_some None e fs s = s
polar_some (Some p) e fs s = refl

sensor_some : (b : Bool) (line : ℕ) → some (sensor_said b line) ≡ true
sensor_some true line = refl
sensor_some false line = refl

shape_some : (line : ℕ) (r : Result Form FaultCode) → shape_fault line true r ≡ None → some (stated (spelled_in r)) ≡ true
shape_some line (Ok f) e = refl
shape_some line (Err c) e = absurd cc

case_some : (line : ℕ) (r : Result Form FaultCode) (o : Option (ℤ × List ℤ)) → shape_fault line (not (is_some o)) r ≡ None → some (case_said (spelled_in r) o) ≡ true
case_some line (Ok f) o e = refl
case_some line (Err c) None e = absurd cc
case_some line (Err c) (Some v) e = refl

-- a statement says something, or its row may say nothing
says_or_silent : (planes : Bool) (row : Row) (r : Result Form FaultCode) (line : ℕ) (ws : List Lexeme) → shape_fault line (is_shaping row ws) r ≡ None
    → (some (row_said planes row (spelled_in r) line ws (behind_of ws)) ≡ true) ⊎ (may_be_silent row ws ≡ true)
says_or_silent planes rows.Shape r line ws e = inl (shape_some line r e)
says_or_silent planes rows.Case r line ws e = inl (case_some line r (values_of ws) e)
says_or_silent planes rows.Stated r line ws e = inr refl
says_or_silent planes rows.Value r line ws e = inr refl
says_or_silent planes rows.Text r line ws e = inr refl
says_or_silent planes rows.Output r line ws e = inr refl
says_or_silent planes rows.Settings r line ws e = inr refl
says_or_silent planes rows.Recall r line ws e = inr refl
says_or_silent planes rows.Save r line ws e = inr refl
says_or_silent planes rows.Silent r line ws e = inr refl
says_or_silent planes rows.Motion r line ws e = inl (or_some (spelled_in r) _ (polar_some (polar_motion (behind_of ws)) PolarMotion _ (motion_some (step_at (behind_of ws)) (behind_of ws))))
says_or_silent planes rows.Touch r line ws e = inl (or_some (spelled_in r) _ (polar_some (polar_touch (behind_of ws)) PolarPoint _ (touch_some (slant_at (behind_of ws)) (behind_of ws))))
says_or_silent planes rows.Test r line ws e = inl (or_some (spelled_in r) _ refl)
says_or_silent planes rows.Loop r line ws e = inl (or_some (spelled_in r) _ refl)
says_or_silent planes rows.Choice r line ws e = inl (or_some (spelled_in r) _ refl)
says_or_silent planes rows.Call r line ws e = call_some (is_outside (behind_of ws)) (spelled_in r)
says_or_silent planes rows.Values r line ws e = inr refl
says_or_silent planes rows.Delete r line ws e = inr refl
says_or_silent planes rows.Switch r line ws e = inr refl
says_or_silent planes rows.Carriage r line ws e = inr refl
says_or_silent planes rows.Feature r line ws e = inl (or_some (spelled_in r) _ (feature_some (plane_if planes (behind_of ws)) (title_at (codes "F") ws)))
says_or_silent planes rows.Measure r line ws e = inl (or_some (spelled_in r) _ (measure_some (measured_at (behind_of ws))))
says_or_silent planes rows.Frame r line ws e = inl (or_some (spelled_in r) _ (frame_some (first_field (behind_of ws)) (title_at (codes "D") ws)))
says_or_silent planes rows.Features r line ws e = inl (remade_some (title_at (codes "F") ws))
says_or_silent planes rows.Mode r line ws e = inl (mode_some (first_field (behind_of ws)))
says_or_silent planes rows.Sensor r line ws e = inl (sensor_some (is_plain_sensor (past marks.Slash (behind_of ws))) line)
says_or_silent planes _ r line ws e = inl refl

silent_only : (fs : List Form) (b : Bool) → (some fs ≡ true) ⊎ (b ≡ true) → fs ≡ [] → b ≡ true
silent_only fs b (inl s) none = (let f : true ≡ false = sym s ∙ ap some none in absurd cc)
silent_only fs b (inr e) none = e

pub silent_ones : SilentOnesMoveNothing
silent_ones planes l whole none =
    let ws = words_of l in
    silent_only (said planes l.line ws) (may_be_silent (row_in ws) ws) (says_or_silent planes (row_in ws) (statement_of ws) l.line ws whole) none
