-- The places of the phase of macros: the statements of a program, each CALL with the body of its macro behind it.
use Rattle.std.specs.Prelude.{ℕ, suc, ◌+◌, Bool, true, false, not, ◌&&◌, List, [], ◌∷◌, ◌++◌, map, Option, Some, None}
use Rattle.vcm_forms.specs.declared.statement.Parameter.{Parameter}
use Rattle.vcm_forms.specs.declared.statement.Argument.{Argument}
use Rattle.vcm_forms.specs.declared.statement.Form.{Form}
use Rattle.vcm_forms.specs.declared.statement.Form.TheVariants.{Declaration, Macro, MacroEnd, Call, Choose, CaseEnd}
use Rattle.vcm_forms.specs.Statements.{is_counted}
use Rattle.vcm_forms.specs.declared.statement.Statement.{Statement}
use Rattle.vcm_substitution.specs.Substitution.{Scope, outside, is_same, put_form, put_argument}

-- a macro
pub record Defined : Type 0 where
  pub name : List ℕ
  pub parameters : List Parameter
  pub body : List Statement

-- a place of the walk
pub data Visit : Type 0 where
  -- MACRO, behind these macros
  Opens : List Defined → Statement → Visit
  -- a statement of a macro, or its ENDMAC, behind what is written of that macro above
  Inside : Defined → Statement → Visit
  -- a statement of the expanded program, in this expansion
  Stands : ℕ → Statement → Visit
  -- a CALL outside macros where a block of a SELECT has to begin, or the SELECT to end
  Misplaced : (line : ℕ) → Visit
  -- a CALL that is carried out: its line, how deep calls are nested here, its macro if there is one above, and what it is called with
  Calls : (line depth : ℕ) → Option Defined → List Argument → Visit

-- how many CALLs these places carry out
abbrev pub calls_in : List Visit → ℕ
calls_in [] = 0
calls_in (Calls line depth m args ∷ ps) = suc (calls_in ps)
calls_in (p ∷ ps) = calls_in ps

-- how a CALL goes on: its line and depth, how many were carried out before it, the name and the arguments
abbrev pub Caller : Type 0
Caller = (line depth done : ℕ) → List ℕ → List Argument → List Visit

-- the places of one statement of a body: a CALL with all that it carries out, or the statement as it stands in the expansion
abbrev pub statement_in : Caller → Scope → (depth done line : ℕ) → Form → List Visit
statement_in call sc depth done line (Call name args) = call line depth done name (map (put_argument sc) args)
statement_in call sc depth done line form = Stands sc.expansion (record { line = line; form = put_form sc form }) ∷ []

-- places, and behind them what goes on
abbrev pub behind : List Visit → ℕ → (ℕ → List Visit) → List Visit
behind ps done on = ps ++ on (done + calls_in ps)

-- the places of a body's statements
abbrev pub body_in : Caller → Scope → (depth done : ℕ) → List Statement → List Visit
body_in call sc depth done [] = []
body_in call sc depth done (s ∷ ss) = behind (statement_in call sc depth done s.line s.form) done (λ n. body_in call sc depth n ss)

-- a CALL where these macros stand above, the latest first: expansions are numbered in the order in which CALLs are carried out, and in a
-- macro's body those macros are known that stand above it
abbrev pub call_in : List Defined → Caller
call_in [] line depth done name args = Calls line depth None args ∷ []
call_in (m ∷ ms) line depth done name args = elim (is_same m.name name) [
  | true ↦ Calls line depth (Some m) args
      ∷ body_in (call_in ms) (record { parameters = m.parameters; arguments = args; expansion = suc done }) (suc depth) (suc done) m.body
  | false ↦ call_in ms line depth done name args
]

-- a macro with one more statement
abbrev pub with_statement : Defined → Statement → Defined
with_statement m s = record { name = m.name; parameters = m.parameters; body = m.body ++ s ∷ [] }

-- whether a statement stands in one of the blocks where a SELECT is open: a counted one, a DECL or a CALL
abbrev pub is_in_block : Form → Bool
is_in_block (Declaration kind names) = true
is_in_block (Call name args) = true
is_in_block form = is_counted form

-- whether a block of a SELECT has to begin, or the SELECT to end, behind one more statement outside macros: SELECT or ENDCAS was the last one
-- that is counted, a DECL or a CALL
abbrev pub waits_behind : Bool → Form → Bool
waits_behind waits (Choose value) = true
waits_behind waits CaseEnd = true
waits_behind waits form = waits && not (is_in_block form)

-- a CALL, where a block has to begin
abbrev pub misplaced_if : Bool → ℕ → List Visit
misplaced_if true line = Misplaced line ∷ []
misplaced_if false line = []

-- a statement outside macros, after so many CALLs: a CALL, which may stand where a block has to begin, or one that stands as it is written
abbrev pub outside_in : Caller → Bool → ℕ → Statement → Form → List Visit
outside_in call waits done s (Call name args) = misplaced_if waits s.line ++ call s.line 1 done name (map (put_argument outside) args)
outside_in call waits done s form = Stands 0 s ∷ []

-- how the text goes on behind a statement: with these macros, the one that is open, whether a block has to begin, and after so many CALLs
abbrev pub Following : Type 0
Following = List Defined → Option Defined → Bool → ℕ → List Visit

-- one statement of the text, and then the rest: MACRO opens a macro, ENDMAC closes it, what stands between is its body, and all else stands
-- outside
abbrev pub text_from : List Defined → Option Defined → Bool → ℕ → Statement → Form → Following → List Visit
text_from ms None waits done s (Macro name ps) on = Opens ms s ∷ on ms (Some (record { name = name; parameters = ps; body = [] })) waits done
text_from ms None waits done s form on = behind (outside_in (call_in ms) waits done s form) done (on ms None (waits_behind waits form))
text_from ms (Some m) waits done s MacroEnd on = Inside m s ∷ on (m ∷ ms) None waits done
text_from ms (Some m) waits done s form on = Inside m s ∷ on ms (Some (with_statement m s)) waits done

-- the places of the text from here on
abbrev pub walk_from : List Defined → Option Defined → Bool → ℕ → List Statement → List Visit
walk_from ms current waits done [] = []
walk_from ms current waits done (s ∷ ss) = text_from ms current waits done s s.form (λ ns m w n. walk_from ns m w n ss)

-- the walk of a program
abbrev pub walk : List Statement → List Visit
walk ss = walk_from [] None false 0 ss
