-- Substitution on trees: what a statement of a macro says in one expansion of it.
use Rattle.std.specs.Prelude.{ℕ, Bool, true, false, not, ◌&&◌, nat_eq, if◌then◌else◌, List, [], ◌∷◌, map, Option, Some, None}
use Rattle.std.specs.Cmp.Lexicographic.{pointwise}
use Rattle.vcm_expr.specs.declared.expression.Term.{Term}
use Rattle.vcm_expr.specs.declared.expression.Term.TheVariants.{Number, Truth, Variable}
use Rattle.vcm_expr.specs.Source.{Source, Plain, Prefixed, Pair}
use Rattle.vcm_forms.specs.declared.statement.Parameter.{Parameter}
use Rattle.vcm_forms.specs.declared.statement.Argument.{Argument}
use Rattle.vcm_forms.specs.declared.statement.Target.{Target}
use Rattle.vcm_forms.specs.declared.statement.Coordinates.{Coordinates}
use Rattle.vcm_forms.specs.declared.statement.Rounds.{Rounds}
use Rattle.vcm_forms.specs.declared.statement.Offset.{Offset}
use Rattle.vcm_forms.specs.declared.statement.Form.{Form}
use Rattle.vcm_forms.specs.declared.statement.Form.TheVariants.{Assignment, Move, Test, Repeat, Feature, Measure, Touch, Configure, Shift, Choose}
use Rattle.vcm_forms.specs.declared.statement.Form.TheVariants.{Rotation, Restore, Query, Report}
use Rattle.std.specs.Option.{option_map}

-- what a body is expanded with: the parameters, what stands for them, one by one, and the number of the expansion
pub record Scope : Type 0 where
  pub parameters : List Parameter
  pub arguments : List Argument
  pub expansion : ℕ

-- outside macros: nothing stands for anything
abbrev pub outside : Scope
outside = record { parameters = []; arguments = []; expansion = 0 }

-- whether two names are the same
abbrev pub is_same : List ℕ → List ℕ → Bool
is_same a b = pointwise nat_eq a b

-- whether a parameter is the quoted, or else the plain, one of this name
abbrev pub is_meant : Bool → List ℕ → Parameter → Bool
is_meant true name p = p.quoted && is_same p.name name
is_meant false name p = not p.quoted && is_same p.name name

-- the argument for the quoted, or else the plain, parameter of this name
abbrev pub argument_for : Bool → List ℕ → List Parameter → List Argument → Option Argument
argument_for quoted name [] bs = None
argument_for quoted name (p ∷ ps) [] = None
argument_for quoted name (p ∷ ps) (b ∷ bs) = if is_meant quoted name p then Some b else argument_for quoted name ps bs

-- the expression that an argument is
abbrev pub value_of : Option Argument → Option Source
value_of None = None
value_of (Some a) = a.value

-- the name that an argument is
abbrev pub name_of : Option Argument → Option (List ℕ)
name_of None = None
name_of (Some a) = a.name

-- an expression, or else the variable of this name in this expansion
abbrev pub value_or : List ℕ → ℕ → Option Source → Source
value_or name e None = Plain (Variable name e)
value_or name e (Some s) = s

-- what stands for a variable: a plain parameter's argument, or else the variable of that name in the expansion
abbrev pub put_variable : Scope → List ℕ → Source
put_variable sc name = value_or name sc.expansion (value_of (argument_for false name sc.parameters sc.arguments))

-- what a leaf says in the expansion
abbrev pub put_term : Scope → Term → Source
put_term sc (Number n) = Plain (Number n)
put_term sc (Truth b) = Plain (Truth b)
put_term sc (Variable name e) = put_variable sc name

-- what an expression says in the expansion
abbrev pub put : Scope → Source → Source
put sc (Plain t) = put_term sc t
put sc (Prefixed op a) = Prefixed op (put sc a)
put sc (Pair op a b) = Pair op (put sc a) (put sc b)

-- the variable that an expression is, where it is one
abbrev pub variable_in : Source → Option Target
variable_in (Plain (Variable name e)) = Some (record { name = name; expansion = e })
variable_in _ = None

-- the variable that an argument is, where it is one
abbrev pub variable_of : Option Source → Option Target
variable_of None = None
variable_of (Some s) = variable_in s

-- a variable, or else the one of this name in this expansion
abbrev pub target_or : List ℕ → ℕ → Option Target → Target
target_or name e None = record { name = name; expansion = e }
target_or name e (Some t) = t

-- what a variable that is assigned is in the expansion
abbrev pub put_target : Scope → Target → Target
put_target sc t = target_or t.name sc.expansion (variable_of (value_of (argument_for false t.name sc.parameters sc.arguments)))

-- a name, or else this one
abbrev pub name_or : List ℕ → Option (List ℕ) → List ℕ
name_or name None = name
name_or name (Some n) = n

-- what a name is in the expansion: a quoted parameter's argument stands in its place
abbrev pub put_name : Scope → List ℕ → List ℕ
put_name sc n = name_or n (name_of (argument_for true n sc.parameters sc.arguments))

-- an argument of a CALL in the body, in each way in which it can be read
abbrev pub put_argument : Scope → Argument → Argument
put_argument sc a = record { name = option_map (put_name sc) a.name; value = option_map (put sc) a.value }

-- what the coordinates of a place say in the expansion
abbrev pub put_spot : Scope → Coordinates → Coordinates
put_spot sc p = record { x = put sc p.x; y = put sc p.y; z = put sc p.z }

-- what the words of DO say in the expansion
abbrev pub put_rounds : Scope → Rounds → Rounds
put_rounds sc r =
    record {
      variable = put_target sc r.variable;
      initial = put sc r.initial;
      limit = put sc r.limit;
      increment = option_map (put sc) r.increment;
    }

-- what a shift along an axis says in the expansion
abbrev pub put_offset : Scope → Offset → Offset
put_offset sc o = record { axis = o.axis; length = put sc o.length }

-- what a statement says: the names of labels and of declared variables stay, since they belong to the expansion
abbrev pub put_form : Scope → Form → Form
put_form sc (Assignment t s) = Assignment (put_target sc t) (put sc s)
put_form sc (Move p) = Move (put_spot sc p)
put_form sc (Test s) = Test (put sc s)
put_form sc (Choose s) = Choose (put sc s)
put_form sc (Repeat r) = Repeat (put_rounds sc r)
put_form sc (Feature n p d) = Feature (put_name sc n) (put_spot sc p) d
put_form sc (Measure n) = Measure (put_name sc n)
put_form sc (Touch p d) = Touch (put_spot sc p) d
put_form sc (Configure which s) = Configure which (put sc s)
put_form sc (Shift n os) = Shift (put_name sc n) (map (put_offset sc) os)
put_form sc (Rotation n axis turns) = Rotation (put_name sc n) axis turns
put_form sc (Restore n) = Restore (put_name sc n)
put_form sc (Query t which n word) = Query (put_target sc t) which (put_name sc n) word
put_form sc (Report which n) = Report which (put_name sc n)
put_form sc form = form
