-- What the statements of variables and moves mean once their names are looked up. The variables stand in a table in the order of their
-- declarations, each with the macro expansion that it belongs to.
use Rattle.std.specs.Prelude.{ℕ, nat_lt, Bool, if◌then◌else◌, List, [], ◌∷◌, ◌++◌, length, slice_get, Option, Some, None, Result, Ok, Err}
use Rattle.std.specs.List.{list_any}
use Rattle.vcm_num.specs.declared.number.Kind.{Kind}
use Rattle.vcm_num.specs.declared.number.Kind.TheVariants as kinds
use Rattle.vcm_lines.specs.declared.fault.FaultCode.{FaultCode}
use Rattle.vcm_lines.specs.declared.fault.FaultCode.TheVariants.{DuplicateName, UnknownName, TooManyNames}
use Rattle.vcm_spec.specs.Expression.{Tree}
use Rattle.vcm_spec.specs.Simple.{Simple}
use Rattle.vcm_spec.specs.declared.simple.Simple.TheVariants.{Goto, Assign}
use Rattle.vcm_expr.specs.declared.typing.Want.{Want}
use Rattle.vcm_expr.specs.declared.typing.Want.TheVariants as wants
use Rattle.vcm_spec.specs.Setup.{Variable, kinds_of}
use Rattle.vcm_items.specs.Names.{is_named, variable_of}
use Rattle.vcm_expr.specs.Source.{Source}
use Rattle.vcm_expr.specs.Typing.{typed_for}
use Rattle.vcm_forms.specs.declared.statement.Target.{Target}
use Rattle.vcm_spec.specs.Results.{◌>>=◌}
use Rattle.vcm_num.specs.declared.limits.TheConstants.{MOST_NAMES}

-- whether a variable of this very expansion has this name
abbrev pub is_declared : List Variable → ℕ → List ℕ → Bool
is_declared vs e name = list_any (is_named e name) vs

-- the table with one more variable of an expansion, whose name has to be new there; it holds 4,096 at most
abbrev pub with_one : List Variable → ℕ → Kind → List ℕ → Result (List Variable) FaultCode
with_one vs e kind name =
    if is_declared vs e name then Err DuplicateName
    else if nat_lt (length vs) MOST_NAMES then Ok (vs ++ record { name = name; kind = kind; expansion = e } ∷ [])
    else Err TooManyNames

-- the table with all variables of a declaration
abbrev pub with_all : List Variable → ℕ → Kind → List (List ℕ) → Result (List Variable) FaultCode
with_all vs e kind [] = Ok vs
with_all vs e kind (name ∷ names) = with_one vs e kind name >>= λ ws. with_all ws e kind names

-- ---- simple statements

-- what may be assigned to a variable of this kind
abbrev pub want_of : Kind → Want
want_of kinds.Int = wants.Int
want_of kinds.Real = wants.Length
want_of kinds.Bool = wants.Bool

-- an assignment to the variable at this index, which has this kind if there is one
abbrev pub assigned_to : List Variable → Source → ℕ → Option Kind → Result (Simple Tree) FaultCode
assigned_to vs value i None = Err UnknownName
assigned_to vs value i (Some kind) = typed_for vs (want_of kind) value >>= λ t. Ok (Assign i t)

-- an assignment to the variable at this index, if there is one
abbrev pub assigned_by : List Variable → Source → Option ℕ → Result (Simple Tree) FaultCode
assigned_by vs value None = Err UnknownName
assigned_by vs value (Some i) = assigned_to vs value i (slice_get (kinds_of vs) i)

-- the variable that a target is: that of its expansion, or else the one outside macros
abbrev pub target_of : List Variable → Target → Option ℕ
target_of vs t = variable_of vs t.expansion t.name

-- an assignment to a variable
abbrev pub assigned : List Variable → Target → Source → Result (Simple Tree) FaultCode
assigned vs t value = assigned_by vs value (target_of vs t)

-- a move: its three lengths from the left
abbrev pub moved : List Variable → (x y z : Source) → Result (Simple Tree) FaultCode
moved vs x y z =
    typed_for vs wants.Length x >>= λ a.
    typed_for vs wants.Length y >>= λ b.
    typed_for vs wants.Length z >>= λ c. Ok (Goto a b c)
