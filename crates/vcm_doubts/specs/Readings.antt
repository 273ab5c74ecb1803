-- What of a text hangs on how a machine counts, and on which variables its macros see.
use Rattle.std.specs.Prelude.{ℕ, pos, int_rem, ◌&&◌, ◌||◌, not, nat_eq, Bool, true, false, if◌then◌else◌, List, [], ◌∷◌, ◌++◌, Option, Some, None}
use Rattle.std.specs.List.{list_any, filter}
use Rattle.std.specs.Ordering.{int_eq}
use Rattle.vcm_num.specs.declared.number.Literal.TheVariants.{Thousandths}
use Rattle.vcm_spec.specs.declared.expression.BinaryOp.TheVariants.{Add, Sub, Mul, Compare}
use Rattle.vcm_lines.specs.declared.logical.Logical.{Logical}
use Rattle.vcm_expr.specs.declared.expression.Piece.{Piece}
use Rattle.vcm_expr.specs.declared.expression.Piece.TheVariants.{Number, Variable, Between}
use Rattle.vcm_expr.specs.Source.{Source, parts}
use Rattle.vcm_forms.specs.declared.statement.Argument.{Argument}
use Rattle.vcm_forms.specs.declared.statement.Coordinates.{Coordinates}
use Rattle.vcm_forms.specs.declared.statement.Form.{Form}
use Rattle.vcm_forms.specs.declared.statement.Form.TheVariants as form
use Rattle.vcm_forms.specs.declared.statement.Statement.{Statement}
use Rattle.vcm_macro.specs.Order.{is_open_behind}
use Rattle.vcm_doubts.specs.Doubts.{is_among, sets, declared_by, parameter_names, sharing_lines}

-- ---- names in expressions

-- whether a part of an expression is a variable among these
abbrev pub is_named : List (List ℕ) → Piece → Bool
is_named names (Variable name e) = is_among names name
is_named names p = false

-- whether an expression has one
abbrev pub has_named : List (List ℕ) → Source → Bool
has_named names e = list_any (is_named names) (parts e)

-- whether one that may be missing has
abbrev pub has_named_if : List (List ℕ) → Option Source → Bool
has_named_if names None = false
has_named_if names (Some e) = has_named names e

-- whether a place has
abbrev pub place_has_named : List (List ℕ) → Coordinates → Bool
place_has_named names p = has_named names p.x || (has_named names p.y || has_named names p.z)

-- whether a statement has, in one of its expressions
abbrev pub form_has_named : List (List ℕ) → Form → Bool
form_has_named names (form.Assignment t value) = has_named names value
form_has_named names (form.Test c) = has_named names c
form_has_named names (form.Choose c) = has_named names c
form_has_named names (form.Repeat r) = has_named names r.initial || (has_named names r.limit || has_named_if names r.increment)
form_has_named names (form.Move p) = place_has_named names p
form_has_named names (form.Feature l p d) = place_has_named names p
form_has_named names (form.Touch p d) = place_has_named names p
form_has_named names (form.Configure which value) = has_named names value
form_has_named names (form.Shift l os) = list_any (λ o. has_named names o.length) os
form_has_named names (form.Call name args) = list_any (λ a. has_named_if names a.value) args
form_has_named names f = false

-- these lines, with the one of a statement where that isn't the last of them
abbrev pub line_once : Bool → ℕ → ℕ → List ℕ
line_once there last line = if there && not (nat_eq line last) then line ∷ [] else []

-- the last of the lines behind it
abbrev pub last_line : Bool → ℕ → ℕ → ℕ
last_line true last line = line
last_line false last line = last

-- ---- sums of decimals

-- whether a part is a decimal that machines that count in binary digits round
abbrev pub is_rounded : Piece → Bool
is_rounded (Number (Thousandths n)) = not (int_eq (int_rem n (pos 125)) (pos 0))
is_rounded p = false

-- whether a value may be such a decimal: it has one, or one of these variables
abbrev pub may_be_rounded : List (List ℕ) → Source → Bool
may_be_rounded names e = list_any is_rounded (parts e) || has_named names e

-- a name more, if it isn't there
abbrev pub with_name : List (List ℕ) → List ℕ → List (List ℕ)
with_name names name = if is_among names name then names else names ++ name ∷ []

-- the variable that gets such a decimal, if one does
abbrev pub decimal_of : List (List ℕ) → Form → Option (List ℕ)
decimal_of names (form.Assignment t value) = if may_be_rounded names value then Some t.name else None
decimal_of names f = None

-- a name more, if there is one
abbrev pub with_found : List (List ℕ) → Option (List ℕ) → List (List ℕ)
with_found names None = names
with_found names (Some name) = with_name names name

-- the variables that may be such decimals, behind a statement
abbrev pub decimals_behind : List (List ℕ) → Form → List (List ℕ)
decimals_behind names f = with_found names (decimal_of names f)

-- and behind statements
abbrev pub decimals_from : List (List ℕ) → List Statement → List (List ℕ)
decimals_from names [] = names
decimals_from names (s ∷ ss) = decimals_from (decimals_behind names s.form) ss

-- those of a text, in whose loops a value may go up to a statement above, and once more
abbrev pub decimals_in : List Statement → List (List ℕ)
decimals_in ss = decimals_from (decimals_from [] ss) ss

-- whether a part is a sum, a difference or a product
abbrev pub is_sum : Piece → Bool
is_sum (Between Add) = true
is_sum (Between Sub) = true
is_sum (Between Mul) = true
is_sum p = false

-- whether a value is reckoned of such decimals
abbrev pub is_reckoned : List (List ℕ) → Source → Bool
is_reckoned decimals e = list_any is_sum (parts e) && may_be_rounded decimals e

-- the variables with such a value behind a statement, beside those above
abbrev pub sums_behind : List (List ℕ) → List (List ℕ) → Form → List (List ℕ)
sums_behind decimals names (form.Assignment t value) = if is_reckoned decimals value then with_name names t.name else names
sums_behind decimals names f = names

-- and behind statements
abbrev pub sums_from : List (List ℕ) → List (List ℕ) → List Statement → List (List ℕ)
sums_from decimals names [] = names
sums_from decimals names (s ∷ ss) = sums_from decimals (sums_behind decimals names s.form) ss

-- the variables of a text that are reckoned of decimals
abbrev pub sums_in : List Statement → List (List ℕ)
sums_in ss = sums_from (decimals_in ss) [] ss

-- whether a part is a relation
abbrev pub is_relation : Piece → Bool
is_relation (Between (Compare r)) = true
is_relation p = false

-- whether a value compares one of these variables
abbrev pub value_compares : List (List ℕ) → Source → Bool
value_compares names e = list_any is_relation (parts e) && has_named names e

-- whether a statement does
abbrev pub compares : List (List ℕ) → Form → Bool
compares names (form.Assignment t value) = value_compares names value
compares names (form.Test c) = value_compares names c
compares names f = false

-- the lines that compare such variables, behind this one
abbrev pub compared_from : List (List ℕ) → ℕ → List Statement → List ℕ
compared_from names last [] = []
compared_from names last (s ∷ ss) = line_once (compares names s.form) last s.line ++ compared_from names (last_line (compares names s.form) last s.line) ss

-- the lines of a text that compare what is reckoned of decimals: it is compared as an exact decimal, where a machine may have a little more or less
abbrev pub compared_lines : List Statement → List ℕ
compared_lines ss = compared_from (sums_in ss) 0 ss

-- ---- variables of the main program in macros

-- the variables that a text declares outside of macros, but on these lines
abbrev pub declared_outside : List ℕ → Bool → List Statement → List (List ℕ)
declared_outside lines opened [] = []
declared_outside lines opened (s ∷ ss) =
    (if opened || list_any (nat_eq s.line) lines then [] else declared_by s.form) ++ declared_outside lines (is_open_behind opened s.form) ss

-- the variables that aren't among others
abbrev pub without : List (List ℕ) → List (List ℕ) → List (List ℕ)
without names others = filter (λ name. not (is_among others name)) names

-- those of the main program that are its own in the macro that is open behind a statement, which has no parameter and no variable of that name
abbrev pub lent_behind : List (List ℕ) → List (List ℕ) → Form → List (List ℕ)
lent_behind main lent (form.Macro name ps) = without main (parameter_names ps)
lent_behind main lent form.MacroEnd = []
lent_behind main lent (form.Declaration kind names) = without lent names
lent_behind main lent f = lent

-- whether a statement uses or sets one of them
abbrev pub borrows : List (List ℕ) → Form → Bool
borrows lent f = form_has_named lent f || list_any (is_among lent) (sets f)

-- the lines that do, behind this one
abbrev pub borrowed_from : List (List ℕ) → List (List ℕ) → ℕ → List Statement → List ℕ
borrowed_from main lent last [] = []
borrowed_from main lent last (s ∷ ss) =
    line_once (borrows lent s.form) last s.line ++ borrowed_from main (lent_behind main lent s.form) (last_line (borrows lent s.form) last s.line) ss

-- the lines within macros of a text that use variables of the main program, which no DECL/GLOBAL or DECL/COMMON shares: some machines don't see these there
abbrev pub borrowed_lines : List Logical → List Statement → List ℕ
borrowed_lines ls ss = borrowed_from (declared_outside (sharing_lines ls) false ss) [] 0 ss
