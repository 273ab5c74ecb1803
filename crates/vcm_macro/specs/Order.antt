-- The order of the statements of a text: DMISMN is the first one, and no other; ENDFIL is the last; a UNITS stands before the first
-- statement that is counted and the first CALL; MACRO and ENDMAC stand in turn, and DMISMN, UNITS and ENDFIL outside macros.
use Rattle.std.specs.Prelude.{ℕ, IsTrue, Bool, true, false, not, ◌&&◌, ◌||◌, if◌then◌else◌, List, [], ◌∷◌, Option, Some, None}
use Rattle.vcm_lines.specs.declared.fault.FaultCode.{FaultCode}
use Rattle.vcm_lines.specs.declared.fault.FaultCode.TheVariants.{BadOrder}
use Rattle.vcm_forms.specs.declared.statement.Form.{Form}
use Rattle.vcm_forms.specs.declared.statement.Form.TheVariants.{Opening, Measures, Macro, MacroEnd, Call, Ending}
use Rattle.vcm_forms.specs.declared.statement.Statement.{Statement}
use Rattle.vcm_forms.specs.Statements.{is_counted}
use Rattle.vcm_macro.specs.declared.order.Order.{Order}

-- before the first statement: whether one stands before, whether a UNITS and an ENDFIL do, whether a MACRO is open, and the last line
abbrev pub nothing_before : Order
nothing_before = record { begun = false; measured = false; ended = false; opened = false; last = 1 }

-- whether a MACRO is open behind a statement
abbrev pub is_open_behind : Bool → Form → Bool
is_open_behind opened (Macro name ps) = true
is_open_behind opened MacroEnd = false
is_open_behind opened form = opened

-- whether a statement is UNITS
abbrev pub is_measures : Form → Bool
is_measures Measures = true
is_measures form = false

-- whether it is ENDFIL
abbrev pub is_ending : Form → Bool
is_ending Ending = true
is_ending form = false

-- what stands before the next statement
abbrev pub order_behind : Order → Statement → Order
order_behind o s = record {
  begun = true;
  measured = o.measured || is_measures s.form;
  ended = o.ended || is_ending s.form;
  opened = is_open_behind o.opened s.form;
  last = s.line;
}

-- what stands before what comes behind these statements
abbrev pub order_after : Order → List Statement → Order
order_after o [] = o
order_after o (s ∷ ss) = order_after (order_behind o s) ss

-- whether a UNITS has to stand above a statement
abbrev pub wants_units : Form → Bool
wants_units (Call name args) = true
wants_units form = is_counted form

-- whether a statement behind DMISMN is out of place by its form alone: a second DMISMN; UNITS, ENDFIL or MACRO in a macro; ENDMAC outside
abbrev pub is_out_of_place : Bool → Form → Bool
is_out_of_place opened Opening = true
is_out_of_place opened Measures = opened
is_out_of_place opened Ending = opened
is_out_of_place opened (Macro name ps) = opened
is_out_of_place opened MacroEnd = not opened
is_out_of_place opened form = false

-- whether a statement is DMISMN
abbrev pub is_opening : Form → Bool
is_opening Opening = true
is_opening form = false

-- whether a statement may not stand here
abbrev pub is_misplaced : Order → Form → Bool
is_misplaced o form =
    if o.begun then o.ended || (is_out_of_place o.opened form || (wants_units form && not o.measured)) else not (is_opening form)

-- a statement out of its place, and at the end an ENDFIL that is missing
abbrev pub BreaksOrder : List Statement → Option Statement → FaultCode → Type 0
BreaksOrder before (Some s) BadOrder = IsTrue (is_misplaced (order_after nothing_before before) s.form)
BreaksOrder before None BadOrder = IsTrue (not (order_after nothing_before before).ended)
BreaksOrder before place code = ⊥

-- a fault is told at its statement's line, at the end at the last statement's
abbrev pub order_line : List Statement → Option Statement → ℕ
order_line before (Some s) = s.line
order_line before None = (order_after nothing_before before).last
