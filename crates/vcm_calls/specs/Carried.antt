-- The CALLs that a program carries out, in their order: the first one gives expansion 1.
use Rattle.std.specs.Prelude.{◌≡◌, ℕ, suc, Bool, true, false, if◌then◌else◌, List, [], ◌∷◌, ◌++◌, Option, Some, None}
use Rattle.vcm_forms.specs.declared.statement.Form.{Form}
use Rattle.vcm_forms.specs.declared.statement.Form.TheVariants.{Macro, MacroEnd, Call}
use Rattle.vcm_forms.specs.declared.statement.Statement.{Statement}
use Rattle.vcm_substitution.specs.Substitution.{is_same}
use Rattle.vcm_macro.specs.Walk.{Visit, Calls, walk}
use Rattle.vcm_calls.specs.declared.called.Called.{Called}

-- a CALL on a line, nested so deep
abbrev pub called : (line depth : ℕ) → Called
called line depth = record { line = line; depth = depth }

-- a macro as it is written
pub record Written : Type 0 where
  pub name : List ℕ
  pub body : List Statement

-- what a CALL carries out: its line and depth, and the name of the macro
abbrev pub Carrier : Type 0
Carrier = (line depth : ℕ) → List ℕ → List Called

-- the CALLs of one statement of a body
abbrev pub carried_at : Carrier → (depth line : ℕ) → Form → List Called
carried_at carry depth line (Call name args) = carry line depth name
carried_at carry depth line form = []

-- the CALLs of a body's statements
abbrev pub carried_in : Carrier → (depth : ℕ) → List Statement → List Called
carried_in carry depth [] = []
carried_in carry depth (s ∷ ss) = carried_at carry depth s.line s.form ++ carried_in carry depth ss

-- a CALL where these macros stand above, the latest first, with all that it carries out: in a macro's body those macros are known that stand above it
abbrev pub carried : List Written → Carrier
carried [] line depth name = called line depth ∷ []
carried (m ∷ ms) line depth name = elim (is_same m.name name) [
  | true ↦ called line depth ∷ carried_in (carried ms) (suc depth) m.body
  | false ↦ carried ms line depth name
]

-- how a text goes on: with these macros, and the one that is open
abbrev pub Following : Type 0
Following = List Written → Option Written → List Called

-- a macro with one more statement
abbrev pub longer : Written → Statement → Written
longer m s = record { name = m.name; body = m.body ++ s ∷ [] }

-- one statement of a text, and then the rest
abbrev pub carried_from : List Written → Option Written → Statement → Form → Following → List Called
carried_from ms None s (Macro name ps) on = on ms (Some (record { name = name; body = [] }))
carried_from ms None s (Call name args) on = carried ms s.line 1 name ++ on ms None
carried_from ms None s form on = on ms None
carried_from ms (Some m) s MacroEnd on = on (m ∷ ms) None
carried_from ms (Some m) s form on = on ms (Some (longer m s))

-- the CALLs of a text from here on
abbrev pub carried_text : List Written → Option Written → List Statement → List Called
carried_text ms current [] = []
carried_text ms current (s ∷ ss) = carried_from ms current s s.form (λ ns m. carried_text ns m ss)

-- those of a whole text
abbrev pub carried_out : List Statement → List Called
carried_out ss = carried_text [] None ss

-- the CALLs among the places of the phase of macros
abbrev pub calls_among : List Visit → List Called
calls_among [] = []
calls_among (Calls line depth m args ∷ ps) = called line depth ∷ calls_among ps
calls_among (p ∷ ps) = calls_among ps

-- whether a statement is ENDMAC
abbrev pub is_macro_end : Form → Bool
is_macro_end MacroEnd = true
is_macro_end form = false

-- how many statements stand before the first ENDMAC
abbrev pub body_size : List Statement → ℕ
body_size [] = 0
body_size (s ∷ ss) = if is_macro_end s.form then 0 else suc (body_size ss)

-- these are the CALLs that the expansion of macros carries out
abbrev pub CarriesOutTheWalk : Type 0
CarriesOutTheWalk = (ss : List Statement) → carried_out ss ≡ calls_among (walk ss)
