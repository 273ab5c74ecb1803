-- The chain of CALLs that a statement comes from.
use Rattle.std.specs.Prelude.{ℕ, zero, suc, ◌-◌, nat_eq, if◌then◌else◌, List, [], ◌∷◌, filter, map, slice_get, unwrap_or, Option, Some, None}
use Rattle.vcm_forms.specs.declared.statement.Form.{Form}
use Rattle.vcm_forms.specs.declared.statement.Form.TheVariants.{Call}
use Rattle.vcm_forms.specs.Statements.{is_counted}
use Rattle.vcm_forms.specs.declared.statement.Statement.{Statement}
use Rattle.vcm_macro.specs.declared.placed.Placed.{Placed}
use Rattle.vcm_macro.specs.Rules.{kept}
use Rattle.vcm_macro.specs.Walk.{walk}
use Rattle.vcm_calls.specs.declared.called.Called.{Called}
use Rattle.vcm_calls.specs.Carried.{carried_out}

-- the expansion of a statement, 0 where there is none
abbrev pub expansion_if : Option Placed → ℕ
expansion_if None = 0
expansion_if (Some p) = p.expansion

-- the expansion that the statement with this number stands in: the steps of the machine are numbered from 0 on
abbrev pub expansion_of : List Placed → ℕ → ℕ
expansion_of all number = expansion_if (slice_get (filter (λ p. is_counted p.statement.form) all) number)

-- the expansions that the numbered statements stand in, in their order
abbrev pub expansions : List Placed → List ℕ
expansions all = map (λ p. p.expansion) (filter (λ p. is_counted p.statement.form) all)

-- the line of a CALL if it is nested so deep, and then what is nested less deep
abbrev pub line_then : Option Called → ℕ → (ℕ → List ℕ) → List ℕ
line_then None depth on = on depth
line_then (Some c) depth on = if nat_eq c.depth depth then c.line ∷ on (depth - 1) else on depth

-- the lines of the CALLs, of the first k, that are nested so deep, less deep, and so on: each time the last one before
abbrev pub chain_before : List Called → (k depth : ℕ) → List ℕ
chain_before calls zero depth = []
chain_before calls (suc k) depth = line_then (slice_get calls k) depth (chain_before calls k)

-- how deep a CALL is nested
abbrev pub depth_if : Option Called → ℕ
depth_if None = 0
depth_if (Some c) = c.depth

-- the lines of the CALLs that an expansion comes from, the innermost first
abbrev pub chain : List Called → (expansion : ℕ) → List ℕ
chain calls e = chain_before calls e (depth_if (slice_get calls (e - 1)))

-- those that the statement with this number comes from, by the CALLs and these expansions of statements
abbrev pub chain_in : List Called → (numbers : List ℕ) → (number : ℕ) → List ℕ
chain_in calls numbers number = chain calls (unwrap_or (slice_get numbers number) 0)

-- those that the statement with this number comes from, in the program of these statements
abbrev pub chain_of : List Statement → (number : ℕ) → List ℕ
chain_of ss number = chain (carried_out ss) (expansion_of (kept (walk ss)) number)

-- the name of a macro, if this calls one
abbrev pub name_of : Form → Option (List ℕ)
name_of (Call name args) = Some name
name_of form = None

-- the name of the macro that a statement calls, if it is a CALL on this line
abbrev pub name_called : Statement → (line : ℕ) → Option (List ℕ)
name_called s line = if nat_eq s.line line then name_of s.form else None

-- a name, or else another
abbrev pub first_name : Option (List ℕ) → Option (List ℕ) → Option (List ℕ)
first_name (Some name) other = Some name
first_name None other = other

-- the name of the macro that the first CALL on a line calls
abbrev pub macro_called : List Statement → (line : ℕ) → Option (List ℕ)
macro_called [] line = None
macro_called (s ∷ ss) line = first_name (name_called s line) (macro_called ss line)
