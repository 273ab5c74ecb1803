-- What becomes of statements that are read in two ways: they are put as something that isn't known.
use Rattle.std.specs.Prelude.{ℕ, ◌&&◌, ◌||◌, not, nat_le, codes, Bool, true, false, if◌then◌else◌, List, [], ◌∷◌, ◌++◌, map, length, Option, Some, None}
use Rattle.std.specs.List.{list_any}
use Rattle.std.specs.Str.{bytes_eq}
use Rattle.vcm_lines.specs.declared.logical.Logical.{Logical}
use Rattle.vcm_expr.specs.declared.expression.Piece.{Piece}
use Rattle.vcm_expr.specs.declared.expression.Piece.TheVariants.{Variable}
use Rattle.vcm_expr.specs.Source.{Source, parts}
use Rattle.vcm_spec.specs.declared.words.FeatureWord.{FeatureWord}
use Rattle.vcm_spec.specs.declared.words.Source.{Source as Side}
use Rattle.vcm_forms.specs.declared.statement.Parameter.{Parameter}
use Rattle.vcm_forms.specs.declared.statement.Argument.{Argument}
use Rattle.vcm_forms.specs.declared.statement.Coordinates.{Coordinates}
use Rattle.vcm_forms.specs.declared.statement.Target.{Target}
use Rattle.vcm_forms.specs.declared.statement.Rounds.{Rounds}
use Rattle.vcm_forms.specs.declared.statement.Form.{Form}
use Rattle.vcm_forms.specs.declared.statement.Form.TheVariants as form
use Rattle.vcm_forms.specs.declared.statement.Statement.{Statement}
use Rattle.vcm_events.specs.declared.event.Event.TheVariants as events
use Rattle.vcm_events.specs.Events.{lost, gained}
use Rattle.vcm_events.specs.Unknown.{unknown, unknown_rounds}
use Rattle.vcm_macro.specs.Rules.{is_there}
use Rattle.vcm_num.specs.declared.limits.TheConstants.{MOST_PARAMETERS}
use Rattle.vcm_doubts.specs.Doubts.{Doubts, is_among, sets, open_behind, outermost, is_in_reach, doubts_of}

-- ---- calls

-- a macro: its name, its parameters, and the variables that statements of its body set
pub record Known : Type 0 where
  pub name : List ℕ
  pub parameters : List Parameter
  pub set : List (List ℕ)

-- the macros that end above, and the one that is open; and the blocks that are
pub record Macros : Type 0 where
  pub above : List Known
  pub current : Option Known
  pub blocks : List ℕ

-- no macro stands above
abbrev pub no_macros : Macros
no_macros = record { above = []; current = None; blocks = outermost }

-- a macro that begins
abbrev pub begun : List ℕ → List Parameter → Known
begun name ps = record { name = name; parameters = ps; set = [] }

-- a macro that is open, behind a statement
abbrev pub gone_on : Form → Option Known → Option Known
gone_on f None = None
gone_on f (Some m) = Some (record m { set = m.set ++ sets f })

-- a macro that ends
abbrev pub ended : List Known → Option Known → List Known
ended ms None = ms
ended ms (Some m) = m ∷ ms

-- the macros behind a statement
abbrev pub known_behind : Macros → Form → Macros
known_behind ms (form.Macro name ps) = record ms { current = Some (begun name ps) }
known_behind ms form.MacroEnd = record ms { above = ended ms.above ms.current; current = None }
known_behind ms f = record ms { current = gone_on f ms.current }

-- the macros and the blocks behind a statement on a line
abbrev pub macros_behind : Macros → ℕ → Form → Macros
macros_behind ms line f = record (known_behind ms f) { blocks = open_behind ms.blocks line f }

-- whether an argument is what a parameter wants where the body sets these variables: a name for a quoted one, else a value, and the body doesn't set it
abbrev pub fits : List (List ℕ) → Parameter → Argument → Bool
fits set p a = if p.quoted then is_there a.name else is_there a.value && not (is_among set p.name)

-- whether there are as many arguments as parameters, and each is what its parameter wants
abbrev pub all_fit : List (List ℕ) → List Parameter → List Argument → Bool
all_fit set [] [] = true
all_fit set (p ∷ ps) (a ∷ args) = fits set p a && all_fit set ps args
all_fit set ps args = false

-- whether a macro may be called by this name with these arguments: it has 16 parameters at most
abbrev pub is_called : List ℕ → List Argument → Known → Bool
is_called name args m = bytes_eq m.name name && (nat_le (length m.parameters) MOST_PARAMETERS && all_fit m.set m.parameters args)

-- whether a parameter is in quotes, and stands without them too
abbrev pub is_loose_one : List (List ℕ) → Parameter → Bool
is_loose_one loose p = p.quoted && is_among loose p.name

-- whether a macro with this name has such a parameter: some machines put what is given for it in both places
abbrev pub is_loose : List (List ℕ) → List ℕ → Known → Bool
is_loose loose name m = bytes_eq m.name name && list_any (is_loose_one loose) m.parameters

-- whether the value of a variable isn't followed: its name is spelled in two ways, or macros share it
abbrev pub is_unfollowed : Doubts → List ℕ → Bool
is_unfollowed d name = is_among d.spelled name || is_among d.shared name

-- whether a part of an argument is a variable that has another value by name than by value, or isn't followed
abbrev pub is_doubtful_piece : Doubts → Piece → Bool
is_doubtful_piece d (Variable name e) = d.parameters || (is_among d.set name || is_unfollowed d name)
is_doubtful_piece d p = false

-- whether a value that an argument may be is doubtful
abbrev pub is_doubtful_value : Doubts → Option Source → Bool
is_doubtful_value d None = false
is_doubtful_value d (Some e) = list_any (is_doubtful_piece d) (parts e)

-- whether a name that an argument may be is spelled in two ways
abbrev pub is_doubtful_name : Doubts → Option (List ℕ) → Bool
is_doubtful_name d None = false
is_doubtful_name d (Some name) = is_among d.spelled name

-- whether an argument is read in two ways
abbrev pub is_doubtful : Doubts → Argument → Bool
is_doubtful d a = is_doubtful_name d a.name || is_doubtful_value d a.value

-- whether it isn't known what a CALL does: a parameter is spelled in two ways, no macro above takes these arguments, the macro has a parameter in quotes outside labels, its
-- name is spelled in two ways, or an argument is read in two ways
abbrev pub is_doubtful_call : Doubts → List Known → List ℕ → List Argument → Bool
is_doubtful_call d ms name args =
    d.twofold || (not (list_any (is_called name args) ms) || (list_any (is_loose d.loose name) ms || (is_among d.spelled name || list_any (is_doubtful d) args)))

-- ---- each statement

-- an expression, where nothing is in doubt
abbrev pub unless : Bool → Source → Source
unless true e = unknown
unless false e = e

-- rounds, where nothing is in doubt
abbrev pub rounds_unless : Bool → Rounds → Rounds
rounds_unless true r = unknown_rounds
rounds_unless false r = r

-- a statement, or else another, where something is in doubt
abbrev pub either : Bool → Form → Form → Form
either true f g = g
either false f g = f

-- a point by the direction of its feature: it isn't tried where a name is spelled in two ways
abbrev pub settled_point : List (List ℕ) → Coordinates → Form
settled_point [] p = form.Touch p None
settled_point (name ∷ names) p = gained events.UntriedPoint

-- what becomes of a statement
abbrev pub settled_form : Doubts → Macros → Form → List Form
settled_form d ms (form.Assignment t value) = form.Assignment t (unless (is_unfollowed d t.name) value) ∷ []
settled_form d ms (form.Query t side l word) =
    either (is_unfollowed d t.name || is_among d.spelled l) (form.Query t side l word) (form.Assignment t unknown) ∷ []
settled_form d ms (form.Test c) = form.Test (unless d.splits c) ∷ []
settled_form d ms (form.Choose c) = form.Choose (unless d.splits c) ∷ []
settled_form d ms (form.Repeat r) = form.Repeat (rounds_unless (d.splits || is_unfollowed d r.variable.name) r) ∷ []
settled_form d ms (form.Restore l) = either (is_among d.spelled l) (form.Restore l) (lost events.Frame) ∷ []
settled_form d ms (form.Report side l) = either (is_among d.spelled l) (form.Report side l) (gained events.Unreported) ∷ []
settled_form d ms (form.Touch p None) = settled_point d.spelled p ∷ []
settled_form d ms (form.Leap name) = either (not (is_in_reach d.labels ms.blocks name) || is_among d.spelled name) (form.Leap name) (gained events.Ends) ∷ []
settled_form d ms (form.Call name args) = either (is_doubtful_call d ms.above name args) (form.Call name args) (lost events.All) ∷ []
settled_form d ms f = f ∷ []

-- what becomes of statements, one behind the other
abbrev pub settled_from : Doubts → Macros → List Statement → List Statement
settled_from d ms [] = []
settled_from d ms (s ∷ ss) =
    map (λ f. record { line = s.line; form = f }) (settled_form d ms s.form) ++ settled_from d (macros_behind ms s.line s.form) ss

-- what becomes of the statements that the lines of a text say
abbrev pub settled : List ℕ → List Logical → List Statement → List Statement
settled text ls ss = settled_from (doubts_of text ls ss) no_macros ss
