-- What a valid code wants, as one list of checks in the order of its statements and their operands.
use Rattle.std.specs.Prelude.{◌≡◌, ◌<◌, ℕ, List, [], ◌∷◌, ◌++◌, flat_map, length, Some, slice_get}
use Rattle.vcm_num.specs.declared.number.Kind.{Kind}
use Rattle.vcm_spec.specs.declared.expression.Item.{Item}
use Rattle.vcm_spec.specs.declared.expression.Item.TheVariants.{Push, Apply, Combine}
use Rattle.vcm_spec.specs.Expression.{HasKind}
use Rattle.vcm_spec.specs.Setup.{Tables}
use Rattle.vcm_spec.specs.Fitting.{kinds as kinds_of}
use Rattle.vcm_items.specs.Typed.{VariableBelow}
use Rattle.vcm_code.specs.declared.branch.Branch.{Branch}
use Rattle.vcm_code.specs.Code.{Op, CodeStatement}
use Rattle.vcm_code.specs.declared.code.Code.{Code}
use Rattle.vcm_code.specs.Shape.{Place, Said, over_operands}
use Rattle.vcm_code.specs.Shape as at

-- what operands are judged by: the kinds of the variables, and how many features, frames and statements there are
pub record Counts : Type 0 where
  pub kinds : List Kind
  pub features : ℕ
  pub frames : ℕ
  pub statements : ℕ

-- those of tables, beside so many statements
abbrev pub counts_of : Tables → ℕ → Counts
counts_of tables count = record { kinds = kinds_of tables; features = length tables.features; frames = length tables.frames; statements = count }

-- one thing that has to hold: an index or a target is below a count, all variables of an expression are, an expression has a kind, a
-- variable has one, or a variable and an expression have the same
pub data Check : Type 0 where
  index : (i count : ℕ) → Check
  target : (i count : ℕ) → Check
  indexes : (items : List Item) (count : ℕ) → Check
  typed : (kinds : List Kind) (items : List Item) (k : Kind) → Check
  of_kind : (kinds : List Kind) (v : ℕ) (k : Kind) → Check
  assigned : (kinds : List Kind) (v : ℕ) (items : List Item) → Check

-- the variable of an item is below a count
abbrev pub ItemBelow : ℕ → Item → Type 0
ItemBelow n (Push x) = VariableBelow n x
ItemBelow n (Apply op) = Unit {0}
ItemBelow n (Combine op) = Unit {0}

-- all variables of an expression are below a count
abbrev pub ItemsBelow : ℕ → List Item → Type 0
ItemsBelow n [] = Unit {0}
ItemsBelow n (i ∷ is) = ItemBelow n i × ItemsBelow n is

-- a check holds
abbrev pub Holds : Check → Type 0
Holds (index i count) = i < count
Holds (target i count) = i < count
Holds (indexes items count) = ItemsBelow count items
Holds (typed kinds items k) = HasKind kinds items k
Holds (of_kind kinds v k) = slice_get kinds v ≡ Some k
Holds (assigned kinds v items) = (k : Kind) × (slice_get kinds v ≡ Some k) × HasKind kinds items k

-- all of them hold
abbrev pub AllHold : List Check → Type 0
AllHold [] = Unit {0}
AllHold (c ∷ cs) = Holds c × AllHold cs

-- an expression: its indexes, then its types
abbrev pub wants : List Kind → List Item → Kind → List Check
wants kinds items k = indexes items (length kinds) ∷ typed kinds items k ∷ []

-- three expressions
abbrev pub three : List Kind → List Item → List Item → List Item → Kind → List Check
three kinds x y z k = wants kinds x k ++ (wants kinds y k ++ wants kinds z k)

-- a variable: its index, then its kind
abbrev pub variable : List Kind → ℕ → Kind → List Check
variable kinds v k = index v (length kinds) ∷ of_kind kinds v k ∷ []

-- the targets of branches, in their order
abbrev pub targets : List Branch → ℕ → List Check
targets [] count = []
targets (b ∷ bs) count = target b.target count ∷ targets bs count

-- what stands in a place; of what has no index, no target and no kind nothing is wanted
abbrev pub place_checks : Counts → (p : Place) → Said p → List Check
place_checks t (at.variable k) v = variable t.kinds v k
place_checks t at.feature f = index f t.features ∷ []
place_checks t at.frame f = index f t.frames ∷ []
place_checks t at.target to = target to t.statements ∷ []
place_checks t (at.items k) e = wants t.kinds e k
place_checks t (at.three k) e = three t.kinds e.0 e.1.0 e.1.1 k
place_checks t at.assigned o = index o.0 (length t.kinds) ∷ indexes o.1 (length t.kinds) ∷ assigned t.kinds o.0 o.1 ∷ []
place_checks t at.branches bs = targets bs t.statements
place_checks t _ x = []

-- a statement: its operands in their order
abbrev pub op_checks : Counts → Op → List Check
op_checks t o = over_operands (place_checks t) o

-- a statement has all that it wants
abbrev pub OpFits : Tables → ℕ → Op → Type 0
OpFits tables count o = AllHold (op_checks (counts_of tables count) o)

-- all statements, one behind the other
abbrev pub line_checks : Counts → List CodeStatement → List Check
line_checks t ss = flat_map (λ (s : CodeStatement). op_checks t s.op) ss

-- all checks of a code
abbrev pub checks : Code → List Check
checks c = line_checks (counts_of c.tables (length c.statements)) c.statements

-- the items have a kind, where the variables have the kinds of the tables
abbrev pub HasItems : Tables → List Item → Kind → Type 0
HasItems tables items k = HasKind (kinds_of tables) items k
