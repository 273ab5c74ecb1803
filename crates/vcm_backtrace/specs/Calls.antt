-- The lines that tell from which CALLs a statement comes.
use Rattle.std.specs.Prelude.{ℕ, ◌-◌, nat_eq, if◌then◌else◌, Bool, true, false, List, [], ◌∷◌, ◌++◌, flat_map, Option, Some, None, decimal, codes}
use Rattle.vcm_forms.specs.declared.statement.Statement.{Statement}
use Rattle.vcm_report.specs.Printed.{in_a_row}
use Rattle.vcm_calls.specs.declared.called.Called.{Called}
use Rattle.vcm_calls.specs.Lines.{source_line}
use Rattle.vcm_calls.specs.Chains.{macro_called, chain_of}
use Rattle.vcm_backtrace.specs.Sources.{Sourced}

-- a line of the text with its number
abbrev pub numbered_line : List ℕ → ℕ → List ℕ
numbered_line text line = in_a_row (codes "line " ∷ decimal line ∷ codes ": " ∷ source_line text line ∷ codes "\n" ∷ [])

-- the name of a macro that is called
abbrev pub call_front : Option (List ℕ) → List ℕ
call_front (Some name) = in_a_row (codes "in M(" ∷ name ∷ codes ") from " ∷ [])
call_front None = in_a_row (codes "from " ∷ [])

-- the CALL on a line
abbrev pub call_line : List ℕ → List Statement → ℕ → List ℕ
call_line text ss line = call_front (macro_called ss line) ++ numbered_line text line

-- the line of a CALL, if it is nested so deep
abbrev pub line_if : Option Called → (depth : ℕ) → Option ℕ
line_if None depth = None
line_if (Some c) depth = if nat_eq c.depth depth then Some c.line else None

-- how deep the CALL before is to be nested, behind this one or none
abbrev pub depth_before : Option ℕ → (depth : ℕ) → ℕ
depth_before None depth = depth
depth_before (Some line) depth = depth - 1

-- the CALL on a line, if there is one
abbrev pub call_if : List ℕ → List Statement → Option ℕ → List ℕ
call_if text ss None = []
call_if text ss (Some line) = call_line text ss line

-- the CALLs that the statement with this number comes from, the innermost first
abbrev pub call_lines : Sourced → (number : ℕ) → List ℕ
call_lines s number = flat_map (call_line s.text s.statements) (chain_of s.statements number)

-- ---- as a field of a row

-- a line that stands first in a field, or after another one
abbrev pub number_in : (is_first : Bool) → ℕ → List ℕ
number_in true line = decimal line
number_in false line = codes " " ++ decimal line

-- the same, if there is one
abbrev pub number_if : (is_first : Bool) → Option ℕ → List ℕ
number_if is_first None = []
number_if is_first (Some line) = number_in is_first line

-- whether the next line stands first
abbrev pub first_after : (is_first : Bool) → Option ℕ → Bool
first_after is_first None = is_first
first_after is_first (Some line) = false

-- lines with a blank between two, of which the first one stands first or not
abbrev pub numbers_in : (is_first : Bool) → List ℕ → List ℕ
numbers_in is_first [] = []
numbers_in is_first (line ∷ lines) = number_in is_first line ++ numbers_in false lines

-- the lines of the CALLs that the statement with this number comes from, the innermost first, if there is a text
abbrev pub calls_field : Option Sourced → (number : ℕ) → List ℕ
calls_field None number = []
calls_field (Some s) number = numbers_in true (chain_of s.statements number)
