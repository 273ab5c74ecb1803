-- Worked examples: what becomes of short programs, computed.
use Rattle.std.specs.Prelude.{◌≡◌, refl, ℕ, zero, suc, pos, Bool, true, false, List, [], ◌∷◌, ◌++◌, codes, Option, Some, None}
use Rattle.vcm_num.specs.declared.number.Kind.TheVariants.{Int as IntKind}
use Rattle.vcm_num.specs.declared.number.Literal.TheVariants.{Int as Whole}
use Rattle.vcm_lines.specs.declared.fault.FaultCode.TheVariants.{DuplicateName, UnknownName, Unbalanced, BadArguments, TooDeep, TooLong}
use Rattle.vcm_lines.specs.declared.fault.SourceFault.{SourceFault}
use Rattle.vcm_spec.specs.declared.expression.BinaryOp.TheVariants.{Add, Mul}
use Rattle.vcm_expr.specs.declared.expression.Term.TheVariants.{Number, Variable}
use Rattle.vcm_expr.specs.Source.{Source, Plain, Pair}
use Rattle.vcm_forms.specs.declared.statement.Form.{Form}
use Rattle.vcm_forms.specs.declared.statement.Form.TheVariants as says
use Rattle.vcm_forms.specs.declared.statement.Argument.{Argument}
use Rattle.vcm_forms.specs.declared.statement.Parameter.{Parameter}
use Rattle.vcm_forms.specs.declared.statement.Coordinates.{Coordinates}
use Rattle.vcm_forms.specs.Statements.{as_read}
use Rattle.vcm_spec.specs.declared.words.Source.TheVariants.{Actual}
use Rattle.vcm_spec.specs.declared.words.Setting.TheVariants.{Depth}
use Rattle.vcm_spec.specs.declared.words.FeatureWord.TheVariants.{Z}
use Rattle.vcm_forms.specs.declared.statement.Statement.{Statement}
use Rattle.vcm_macro.specs.declared.placed.Placed.{Placed}
use Rattle.vcm_macro.specs.Order.{nothing_before, order_after, is_misplaced}
use Rattle.vcm_macro.specs.Walk.{walk}
use Rattle.vcm_macro.specs.Rules.{kept}
use Rattle.vcm_macro.specs.Computed.{macro_fault}

-- statements, each on a line of its own from this one on
abbrev pub on_lines : ℕ → List Form → List Statement
on_lines n [] = []
on_lines n (f ∷ fs) = record { line = n; form = f } ∷ on_lines (suc n) fs

-- a whole number
abbrev pub whole : ℕ → Source
whole n = Plain (Number (Whole (pos n)))

-- a variable in an expansion
abbrev pub var : List ℕ → ℕ → Source
var name e = Plain (Variable name e)

-- an argument that is an expression alone
abbrev pub expression : Source → Argument
expression s = record { name = None; value = Some s }

-- one that is a run of letters
abbrev pub run : List ℕ → Argument
run name = record { name = Some name; value = Some (var name 0) }

-- a statement of the expanded program
abbrev pub placed : ℕ → ℕ → Form → Placed
placed e n f = record { statement = record { line = n; form = f }; expansion = e }

-- what assigns R in an expansion
abbrev pub r_gets : ℕ → Source → Form
r_gets e s = says.Assignment (record { name = codes "R"; expansion = e }) s

-- doubles its argument and adds it to R
abbrev pub doubling : (first second : List Argument) → List Statement
doubling first second = on_lines 3 (
    says.Declaration IntKind (codes "R" ∷ [])
    ∷ says.Macro (codes "DBL") (record { name = codes "A"; quoted = false } ∷ [])
    ∷ says.Leap (codes "OUT")
    ∷ says.Say (codes "SKIPPED")
    ∷ says.Mark (codes "OUT")
    ∷ r_gets 0 (Pair Add (var (codes "R") 0) (Pair Mul (var (codes "A") 0) (whole 2)))
    ∷ says.MacroEnd
    ∷ says.Call (codes "DBL") first
    ∷ says.Call (codes "DBL") second
    ∷ says.Ending
    ∷ [])

-- what an expansion leaves of it
abbrev pub doubled : ℕ → Source → List Placed → List Placed
doubled e a rest =
    placed e 5 (says.Leap (codes "OUT"))
    ∷ placed e 6 (says.Say (codes "SKIPPED"))
    ∷ placed e 7 (says.Mark (codes "OUT"))
    ∷ placed e 8 (r_gets e (Pair Add (var (codes "R") e) (Pair Mul a (whole 2))))
    ∷ rest

-- each call has labels and a number of its own, and its argument is one operand
pub two_calls : kept (walk (doubling (expression (Pair Add (whole 1) (whole 2)) ∷ []) (run (codes "R") ∷ []))) ≡
    placed 0 3 (says.Declaration IntKind (codes "R" ∷ []))
    ∷ doubled 1 (Pair Add (whole 1) (whole 2)) (doubled 2 (var (codes "R") 0) (placed 0 12 says.Ending ∷ []))
two_calls = refl

-- the argument for a parameter is missing
pub no_argument : macro_fault (doubling [] (run (codes "R") ∷ [])) ≡ Some (record { code = BadArguments; line = 10 })
no_argument = refl

-- a body calls a macro that is defined below it, but above the CALL of that body
pub defined_below : macro_fault (on_lines 3 (says.Macro (codes "A") [] ∷ says.Call (codes "B") [] ∷ says.MacroEnd
    ∷ says.Macro (codes "B") [] ∷ says.MacroEnd ∷ says.Call (codes "A") [] ∷ says.Ending ∷ []))
    ≡ Some (record { code = UnknownName; line = 4 })
defined_below = refl

-- without that CALL nothing is refused
pub never_called : macro_fault (on_lines 3 (says.Macro (codes "A") [] ∷ says.Call (codes "B") [] ∷ says.MacroEnd
    ∷ says.Macro (codes "B") [] ∷ says.MacroEnd ∷ says.Ending ∷ [])) ≡ None
never_called = refl

-- a CALL above its macro
pub called_above : macro_fault (on_lines 3 (says.Call (codes "A") [] ∷ says.Macro (codes "A") [] ∷ says.MacroEnd ∷ says.Ending ∷ []))
    ≡ Some (record { code = UnknownName; line = 3 })
called_above = refl

-- a plain parameter
abbrev pub plain : List ℕ → Parameter
plain name = record { name = name; quoted = false }

-- a quoted one
abbrev pub quoted : List ℕ → Parameter
quoted name = record { name = name; quoted = true }

-- a place at a height
abbrev pub at_height : Source → Coordinates
at_height s = record { x = whole 1; y = whole 2; z = s }

-- measures the feature of a name, at a height
abbrev pub probing : List Argument → List Statement
probing args = on_lines 3 (
    says.Macro (codes "PROBE") (quoted (codes "N") ∷ plain (codes "H") ∷ [])
    ∷ says.Measure (codes "N")
    ∷ says.Touch (at_height (var (codes "H") 0)) None
    ∷ says.MeasureEnd
    ∷ says.Report Actual (codes "N")
    ∷ says.Configure Depth (Pair Mul (var (codes "H") 0) (var (codes "N") 0))
    ∷ says.MacroEnd
    ∷ says.Call (codes "PROBE") args
    ∷ says.Ending
    ∷ [])

-- a quoted parameter stands for a name alone, and a plain one for an expression
pub named : kept (walk (probing (run (codes "P1") ∷ expression (whole 7) ∷ []))) ≡
    placed 1 4 (says.Measure (codes "P1"))
    ∷ placed 1 5 (says.Touch (at_height (whole 7)) None)
    ∷ placed 1 6 says.MeasureEnd
    ∷ placed 1 7 (says.Report Actual (codes "P1"))
    ∷ placed 1 8 (says.Configure Depth (Pair Mul (whole 7) (var (codes "N") 1)))
    ∷ placed 0 11 says.Ending
    ∷ []
named = refl

-- an expression is no name
pub no_name : macro_fault (probing (expression (whole 7) ∷ expression (whole 7) ∷ [])) ≡ Some (record { code = BadArguments; line = 10 })
no_name = refl

-- counts rounds in its parameter, and gives it a coordinate
abbrev pub counting : Argument → List Statement
counting a = on_lines 3 (
    says.Macro (codes "COUNT") (plain (codes "V") ∷ [])
    ∷ says.Repeat (record { variable = as_read (codes "V"); initial = whole 1; limit = var (codes "V") 0; increment = None })
    ∷ says.RepeatEnd
    ∷ says.Query (as_read (codes "V")) Actual (codes "P1") Z
    ∷ says.MacroEnd
    ∷ says.Call (codes "COUNT") (a ∷ [])
    ∷ says.Ending
    ∷ [])

-- what is assigned is the variable that the argument is
pub counted : kept (walk (counting (expression (var (codes "R") 0)))) ≡
    placed 1 4 (says.Repeat (record { variable = as_read (codes "R"); initial = whole 1; limit = var (codes "R") 0; increment = None }))
    ∷ placed 1 5 says.RepeatEnd
    ∷ placed 1 6 (says.Query (as_read (codes "R")) Actual (codes "P1") Z)
    ∷ placed 0 9 says.Ending
    ∷ []
counted = refl

-- and another expression can't be assigned
pub no_variable : macro_fault (counting (expression (whole 7))) ≡ Some (record { code = BadArguments; line = 8 })
no_variable = refl

-- the fault of a macro with these statements, its MACRO on line 3
abbrev pub body_fault : List Form → Option SourceFault
body_fault fs = macro_fault (on_lines 3 (says.Macro (codes "A") (plain (codes "P") ∷ []) ∷ (fs ++ says.MacroEnd ∷ says.Ending ∷ [])))

-- ENDMES where a test is open in the measurement
pub crossed : body_fault (says.Measure (codes "N") ∷ says.Test (var (codes "P") 0) ∷ says.MeasureEnd ∷ [])
    ≡ Some (record { code = Unbalanced; line = 6 })
crossed = refl

-- a measurement that is open at ENDMAC
pub open_at_end : body_fault (says.Test (var (codes "P") 0) ∷ says.Otherwise ∷ says.TestEnd ∷ says.Measure (codes "N") ∷ [])
    ≡ Some (record { code = Unbalanced; line = 8 })
open_at_end = refl

-- a SELECT with a block for a value, and one for all others
pub chooses : body_fault (says.Choose (var (codes "P") 0) ∷ says.Case (pos 1) ∷ says.Home ∷ says.CaseEnd ∷ says.Default ∷ says.CaseEnd ∷ says.ChooseEnd ∷ [])
    ≡ None
chooses = refl

-- a statement before the first block of a SELECT
pub before_blocks : body_fault (says.Choose (var (codes "P") 0) ∷ says.Home ∷ says.ChooseEnd ∷ []) ≡ Some (record { code = Unbalanced; line = 5 })
before_blocks = refl

-- a second DFTCAS
pub two_defaults : body_fault (says.Choose (var (codes "P") 0) ∷ says.Default ∷ says.CaseEnd ∷ says.Default ∷ says.CaseEnd ∷ says.ChooseEnd ∷ [])
    ≡ Some (record { code = Unbalanced; line = 7 })
two_defaults = refl

-- what becomes of a CALL behind these statements
abbrev pub call_behind : List Form → Option SourceFault
call_behind before = macro_fault (on_lines 3 (says.Macro (codes "A") [] ∷ says.MacroEnd ∷ (before ++ says.Call (codes "A") [] ∷ says.Ending ∷ [])))

-- it stands neither before the first block of a SELECT nor behind one
pub call_before_blocks : call_behind (says.Choose (whole 1) ∷ []) ≡ Some (record { code = Unbalanced; line = 6 })
call_before_blocks = refl

-- what stands in a macro between them changes nothing
pub call_behind_block : call_behind (says.Choose (whole 1) ∷ says.Case (pos 1) ∷ says.CaseEnd ∷ says.Macro (codes "B") [] ∷ says.Home ∷ says.MacroEnd ∷ [])
    ≡ Some (record { code = Unbalanced; line = 11 })
call_behind_block = refl

-- that is told before all else that is wrong with it
pub unknown_before_blocks : macro_fault (on_lines 3 (says.Choose (whole 1) ∷ says.Call (codes "B") [] ∷ says.Ending ∷ []))
    ≡ Some (record { code = Unbalanced; line = 4 })
unknown_before_blocks = refl

-- it stands in a block
pub call_in_block : call_behind (says.Choose (whole 1) ∷ says.Case (pos 1) ∷ says.CaseEnd ∷ says.Default ∷ says.Home ∷ []) ≡ None
call_in_block = refl

-- and behind ENDSEL
pub call_behind_select : call_behind (says.Choose (whole 1) ∷ says.Case (pos 1) ∷ says.CaseEnd ∷ says.ChooseEnd ∷ []) ≡ None
call_behind_select = refl

-- a parameter that is declared again
pub declared_again : body_fault (says.Declaration IntKind (codes "P" ∷ []) ∷ []) ≡ Some (record { code = DuplicateName; line = 4 })
declared_again = refl

-- two parameters of one name
pub twins : macro_fault (on_lines 3 (says.Macro (codes "A") (plain (codes "P") ∷ quoted (codes "P") ∷ []) ∷ says.MacroEnd ∷ says.Ending
    ∷ [])) ≡ Some (record { code = DuplicateName; line = 3 })
twins = refl

-- macros, of which each but the first calls the one above it, with this argument
abbrev pub macros_with : Source → ℕ → List Form
macros_with s zero = says.Macro (0 ∷ []) (plain (codes "A") ∷ []) ∷ says.MacroEnd ∷ []
macros_with s (suc n) =
    macros_with s n ++ (says.Macro (suc n ∷ []) (plain (codes "A") ∷ []) ∷ says.Call (n ∷ []) (expression s ∷ []) ∷ says.MacroEnd ∷ [])

-- and a CALL of the last one
abbrev pub chained : Source → ℕ → List Statement
chained s n = on_lines 3 (macros_with s n ++ says.Call (n ∷ []) (expression (whole 1) ∷ []) ∷ says.Ending ∷ [])

-- CALLs nest 16 deep
pub sixteen_deep : macro_fault (chained (var (codes "A") 0) 15) ≡ None
sixteen_deep = refl

-- and no deeper
pub seventeen_deep : macro_fault (chained (var (codes "A") 0) 16) ≡ Some (record { code = TooLong; line = 6 })
seventeen_deep = refl

-- an argument grows from CALL to CALL by A*A: the ninth of them has 1,023 nodes
pub growing : macro_fault (chained (Pair Mul (var (codes "A") 0) (var (codes "A") 0)) 15) ≡ Some (record { code = TooDeep; line = 24 })
growing = refl

-- ---- order

-- whether a statement may not stand behind these
abbrev pub misplaced : List Form → Form → Bool
misplaced before form = is_misplaced (order_after nothing_before (on_lines 1 before)) form

-- a program begins with DMISMN
pub first : misplaced [] says.Measures ∷ misplaced [] says.Opening ∷ [] ≡ true ∷ false ∷ []
first = refl

-- a CALL wants a UNITS above it, and MACRO doesn't
pub unmeasured : misplaced (says.Opening ∷ []) (says.Call (codes "A") []) ∷ misplaced (says.Opening ∷ []) (says.Macro (codes "A") []) ∷ []
    ≡ true ∷ false ∷ []
unmeasured = refl

-- the first statements of a program, with a macro that is open
abbrev pub opened : List Form
opened = says.Opening ∷ says.Measures ∷ says.Macro (codes "A") [] ∷ []

-- no MACRO and no ENDFIL stands in a macro, but ENDMAC does
pub in_a_macro : misplaced opened (says.Macro (codes "B") []) ∷ misplaced opened says.Ending ∷ misplaced opened says.MacroEnd ∷ []
    ≡ true ∷ true ∷ false ∷ []
in_a_macro = refl

-- behind ENDMAC it is the other way round
pub behind_a_macro : misplaced (opened ++ says.MacroEnd ∷ []) (says.Macro (codes "B") [])
    ∷ misplaced (opened ++ says.MacroEnd ∷ []) says.Ending ∷ misplaced (opened ++ says.MacroEnd ∷ []) says.MacroEnd ∷ []
    ≡ false ∷ false ∷ true ∷ []
behind_a_macro = refl
