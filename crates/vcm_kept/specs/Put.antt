-- What a text is put as, as a program and its remarks.
use Rattle.std.specs.Prelude.{ℕ, ◌+◌, if◌then◌else◌, List, [], ◌∷◌, ◌++◌, map, Option, Some, None}
use Rattle.vcm_forms.specs.Statements.{is_counted}
use Rattle.vcm_macro.specs.declared.placed.Placed.{Placed}
use Rattle.vcm_remarks.specs.declared.remark.Remark.{Remark}
use Rattle.vcm_remarks.specs.declared.remark.NumberedRemark.{NumberedRemark}
use Rattle.vcm_templates.specs.declared.guarded.Guarded.{Guarded}

-- the statement alone
abbrev pub placed_of : Guarded → Placed
placed_of g = g.placed

-- the statements that a text is put as
abbrev pub placed_in : List Guarded → List Placed
placed_in gs = map placed_of gs

-- the remark on a statement with a number, if it has one
abbrev pub remark_at : ℕ → ℕ → Option Remark → List NumberedRemark
remark_at n line None = []
remark_at n line (Some r) = record { number = n; line = line; remark = r } ∷ []

-- the number of the next statement: those that are a step of the machine are counted
abbrev pub number_behind : ℕ → Guarded → ℕ
number_behind n g = if is_counted g.placed.statement.form then n + 1 else n

-- the remarks on statements, the first of which has a number
abbrev pub remarks_from : ℕ → List Guarded → List NumberedRemark
remarks_from n [] = []
remarks_from n (g ∷ gs) = remark_at n g.placed.statement.line g.remark ++ remarks_from (number_behind n g) gs

-- the remarks on the statements of a program
abbrev pub remarks_in : List Guarded → List NumberedRemark
remarks_in gs = remarks_from 0 gs
