-- What statements leave behind them, such as the blocks that are open, and what the words of blocks and labels mean behind it.
use Rattle.std.specs.Prelude.{ℕ, suc, pos, nat_lt, Bool, true, false, if◌then◌else◌, List, [], ◌∷◌, slice_get, Option, Some, None, Result, Ok, Err}
use Rattle.std.specs.List.{list_any}
use Rattle.vcm_num.specs.declared.number.Kind.{Kind}
use Rattle.vcm_num.specs.declared.number.Kind.TheVariants as kinds
use Rattle.vcm_lines.specs.declared.fault.FaultCode.{FaultCode}
use Rattle.vcm_lines.specs.declared.fault.FaultCode.TheVariants.{DuplicateName, UnknownName, BadType, Unbalanced}
use Rattle.vcm_spec.specs.Expression.{Tree, Value}
use Rattle.vcm_spec.specs.declared.expression.Operand.TheVariants.{Integer}
use Rattle.vcm_spec.specs.Program.{Label, is_same_label}
use Rattle.vcm_expr.specs.declared.typing.Want.TheVariants as wants
use Rattle.vcm_spec.specs.Setup.{Variable, kinds_of}
use Rattle.vcm_expr.specs.Source.{Source}
use Rattle.vcm_expr.specs.Typing.{typed_for}
use Rattle.vcm_forms.specs.declared.statement.Rounds.{Rounds}
use Rattle.vcm_forms.specs.declared.statement.Target.{Target}
use Rattle.vcm_tree.specs.Sentences.{Step, Marks, Tests, Divides, EndsTest, Repeats, EndsRepeat, Selects, EndsCase, EndsSelect, Ends}
use Rattle.vcm_tree.specs.Variables.{target_of}
use Rattle.vcm_spec.specs.Results.{◌>>=◌}
use Rattle.vcm_num.specs.declared.limits.TheConstants.{DEEPEST_BLOCKS}

-- what is open: the first block of an IF, the second one, the body of a DO, that of a MEAS of a feature, a SELECT with its DFTCAS or
-- without, a block of a SELECT
pub data Opened : Type 0 where
  InFirst : Opened
  InSecond : Opened
  InBody : Opened
  InMeasure : (feature : ℕ) → Opened
  InSelect : (defaulted : Bool) → Opened
  InCase : Opened

-- the features and frames that stand above, and whether the MEAS block that is open has its PTMEAS
pub record Measured : Type 0 where
  pub features : List (List ℕ)
  pub frames : List (List ℕ)
  pub touched : Bool

-- these features and frames, with a PTMEAS or without
abbrev pub measured : List (List ℕ) → List (List ℕ) → Bool → Measured
measured fs ds t = record { features = fs; frames = ds; touched = t }

-- what statements leave behind them: the variables, the blocks that are open (the innermost first), the labels that stand above, and what
-- they say of features and frames
pub record Behind : Type 0 where
  pub variables : List Variable
  pub blocks : List Opened
  pub labels : List Label
  pub measured : Measured

-- these variables, open blocks, labels, features and frames
abbrev pub behind : List Variable → List Opened → List Label → Measured → Behind
behind vs bs ls ms = record { variables = vs; blocks = bs; labels = ls; measured = ms }

-- one more block may be opened, or not
abbrev pub room_by : Bool → Result (Unit {0}) FaultCode
room_by true = Ok tt
room_by false = Err Unbalanced

-- how many blocks are open: a SELECT is none, but each of its blocks is one
abbrev pub depth : List Opened → ℕ
depth [] = 0
depth (InSelect t ∷ bs) = depth bs
depth (b ∷ bs) = suc (depth bs)

-- one more block may be opened where fewer than 32 are open
abbrev pub room : List Opened → Result (Unit {0}) FaultCode
room bs = room_by (nat_lt (depth bs) DEEPEST_BLOCKS)

-- a statement that opens a block
abbrev pub nested : List Opened → Result Step FaultCode → Result Step FaultCode
nested bs r = room bs >>= λ _. r

-- ELSE stands at the end of the first block of an IF
abbrev pub divided : List Opened → Result Step FaultCode
divided (InFirst ∷ bs) = Ok Divides
divided _ = Err Unbalanced

-- ENDIF stands at the end of a block of an IF
abbrev pub test_ended : List Opened → Result Step FaultCode
test_ended (InFirst ∷ bs) = Ok EndsTest
test_ended (InSecond ∷ bs) = Ok EndsTest
test_ended _ = Err Unbalanced

-- ENDDO stands at the end of the body of a DO
abbrev pub repeat_ended : List Opened → Result Step FaultCode
repeat_ended (InBody ∷ bs) = Ok EndsRepeat
repeat_ended _ = Err Unbalanced

-- CASE and DFTCAS stand in a SELECT outside its blocks, before its DFTCAS
abbrev pub case_begun : List Opened → Step → Result Step FaultCode
case_begun (InSelect false ∷ bs) s = nested bs (Ok s)
case_begun _ s = Err Unbalanced

-- ENDCAS stands at the end of a block of a SELECT
abbrev pub case_ended : List Opened → Result Step FaultCode
case_ended (InCase ∷ bs) = Ok EndsCase
case_ended _ = Err Unbalanced

-- ENDSEL stands in a SELECT outside its blocks
abbrev pub select_ended : List Opened → Result Step FaultCode
select_ended (InSelect t ∷ bs) = Ok EndsSelect
select_ended _ = Err Unbalanced

-- whether a SELECT is open, and none of its blocks
abbrev pub is_choosing : List Opened → Bool
is_choosing (InSelect t ∷ bs) = true
is_choosing bs = false

-- ENDFIL stands outside all blocks
abbrev pub ended : List Opened → Result Step FaultCode
ended [] = Ok Ends
ended _ = Err Unbalanced

-- a test
abbrev pub tested : List Variable → Source → Result Step FaultCode
tested vs e = typed_for vs wants.Bool e >>= λ t. Ok (Tests t)

-- SELECT chooses by a whole number
abbrev pub selected : List Variable → Source → Result Step FaultCode
selected vs e = typed_for vs wants.Int e >>= λ t. Ok (Selects t)

-- the index of a DO is the variable at this place of the table, if its kind is that of whole numbers
abbrev pub index_to : ℕ → Option Kind → Result ℕ FaultCode
index_to i (Some kinds.Int) = Ok i
index_to i (Some _) = Err BadType
index_to i None = Err UnknownName

-- the index of a DO at this place, if there is one
abbrev pub index_by : List Variable → Option ℕ → Result ℕ FaultCode
index_by vs None = Err UnknownName
index_by vs (Some i) = index_to i (slice_get (kinds_of vs) i)

-- the index of a DO is a variable of whole numbers
abbrev pub indexed : List Variable → Target → Result ℕ FaultCode
indexed vs t = index_by vs (target_of vs t)

-- an increment that is left out is 1
abbrev pub increment_of : List Variable → Option Source → Result Tree FaultCode
increment_of vs None = Ok (Value (Integer (pos 1)))
increment_of vs (Some e) = typed_for vs wants.Int e

-- the index, the initial value, the limit and the increment, from the left
abbrev pub repeated : List Variable → Rounds → Result Step FaultCode
repeated vs r =
    indexed vs r.variable >>= λ i.
    typed_for vs wants.Int r.initial >>= λ a.
    typed_for vs wants.Int r.limit >>= λ b.
    increment_of vs r.increment >>= λ c. Ok (Repeats i a b c)

-- a label of an expansion
abbrev pub label_of : ℕ → List ℕ → Label
label_of e name = record { name = name; expansion = e }

-- a jump label is new
abbrev pub marked : List Label → Label → Result Step FaultCode
marked ls l = if list_any (is_same_label l) ls then Err DuplicateName else Ok (Marks l)
