-- The variables that statements declare have the names of variables.
use Rattle.std.proofs.Common.{◌≡◌, ℕ, Bool, true, false, List, [], ◌∷◌, ◌++◌, length, Result, Ok, Err, refl, subst, nat_lt}
use Rattle.std.specs.Prelude.{if◌then◌else◌}
use Rattle.vcm_num.specs.declared.number.Kind.{Kind}
use Rattle.vcm_lines.specs.declared.fault.FaultCode.{FaultCode}
use Rattle.vcm_lines.specs.declared.fault.FaultCode.TheVariants.{BadSyntax, DuplicateName, TooManyNames}
use Rattle.vcm_lines.specs.declared.logical.Logical.{Logical}
use Rattle.vcm_lines.specs.Lexemes.{Lexeme, Run}
use Rattle.vcm_spec.specs.Setup.{Variable}
use Rattle.vcm_items.specs.Names.{AreNamed}
use Rattle.vcm_items.specs.NameBytes.{is_variable_name, IsVariableName}
use Rattle.vcm_items.proofs.NameLemmas.{one_more_named}
use Rattle.vcm_forms.specs.declared.statement.Form.{Form}
use Rattle.vcm_forms.specs.declared.statement.Form.TheVariants.{Declaration}
use Rattle.vcm_forms.specs.declared.statement.Statement.{Statement}
use Rattle.vcm_macro.specs.declared.placed.Placed.{Placed}
use Rattle.vcm_syntax.specs.Readers.{each_of}
use Rattle.vcm_syntax.specs.Places.{variable_of}
use Rattle.vcm_syntax.proofs.Declaring.{DeclaresNames, stated as stated_names}
use Rattle.vcm_tree.specs.Statements.{AreSpelled, words_of}
use Rattle.vcm_tree.specs.Variables.{is_declared, with_one, with_all}
use Rattle.vcm_tree.specs.Blocks.{Behind}
use Rattle.vcm_tree.specs.Resolving.{Meaning, resolved_here, behind_by, behind_one, behind_all}
use Rattle.vcm_tree.specs.inner.Taking.{declared_by}
use Rattle.vcm_tree.proofs.Stated.{bind-Ok, meant}
use Rattle.vcm_tree.proofs.GrownTables.{tabled}
use Rattle.vcm_tree.specs.Declaring.{DeclaresVariables, DeclareVariables}
use Rattle.vcm_tree.proofs.Kept.{Letters, AllLettered}
use Rattle.vcm_spec.specs.Results.{◌>>=◌}

-- ---- words that declare

name_lettered : (bs name : List ℕ) (b : Bool) → is_variable_name bs ≡ b → (if b then Ok bs else Err BadSyntax) ≡ Ok name → IsVariableName name
name_lettered bs name true e h = let same : bs ≡ name = cc in subst IsVariableName same e
name_lettered bs name false e h = absurd cc

one_lettered : (f : List Lexeme) (name : List ℕ) → variable_of f ≡ Ok name → IsVariableName name
one_lettered (Run bs ∷ []) name h = name_lettered bs name (is_variable_name bs) refl h
one_lettered _ name h = absurd cc

all_lettered : (fs : List (List Lexeme)) (names : List (List ℕ)) → each_of variable_of fs ≡ Ok names → Letters names
all_lettered [] names h = let same : [] ≡ names = cc in subst Letters same tt
all_lettered (f ∷ fs) names h =
    let p = bind-Ok (variable_of f) (λ x. each_of variable_of fs >>= λ xs. Ok (x ∷ xs)) names h in
    let q = bind-Ok (each_of variable_of fs) (λ xs. Ok (p.0 ∷ xs)) names p.2 in
    let last : Ok (p.0 ∷ q.0) ≡ Ok names = q.2 in
    let same : p.0 ∷ q.0 ≡ names = cc in
    subst Letters same (one_lettered f p.0 p.1, all_lettered fs q.0 q.1)

declares_lettered : (form : Form) → DeclaresNames form → DeclaresVariables form
declares_lettered (Declaration k names) h = all_lettered h.0 names h.1
declares_lettered _ h = tt

-- ---- the table

one_named : (vs : List Variable) (ex : ℕ) (k : Kind) (name : List ℕ) (ws : List Variable) → with_one vs ex k name ≡ Ok ws → AreNamed vs → IsVariableName name → AreNamed ws
one_named vs ex k name ws e h n = by (is_declared vs ex name) (nat_lt (length vs) 4096) e
  where
    by : (b c : Bool) → (if b then Err DuplicateName else if c then tabled (vs ++ record { name = name; kind = k; expansion = ex } ∷ []) else Err TooManyNames) ≡ tabled ws → AreNamed ws
    by true c f = absurd cc
    by false true f = (let g : vs ++ record { name = name; kind = k; expansion = ex } ∷ [] ≡ ws = cc in subst AreNamed g (one_more_named vs (record { name = name; kind = k; expansion = ex }) h n))
    by false false f = absurd cc

all_named : (vs : List Variable) (ex : ℕ) (k : Kind) (names : List (List ℕ)) (ws : List Variable) → with_all vs ex k names ≡ Ok ws → AreNamed vs → Letters names → AreNamed ws
all_named vs ex k [] ws e h n = (let g : vs ≡ ws = cc in subst AreNamed g h)
all_named vs ex k (name ∷ names) ws e h n =
    let q = bind-Ok (with_one vs ex k name) (λ xs. with_all xs ex k names) ws e in
    all_named q.0 ex k names ws q.2 (one_named vs ex k name q.0 q.1 h n.0) n.1

declared_named : (vs : List Variable) (ex : ℕ) (form : Form) (ws : List Variable) → declared_by vs ex form ≡ Ok ws → AreNamed vs → DeclaresVariables form → AreNamed ws
declared_named vs ex (Declaration k names) ws e h n = all_named vs ex k names ws e h n
declared_named vs ex _ ws e h n = (let same : vs ≡ ws = cc in subst AreNamed same h)

form_named : (b : Behind) (s : Placed) → AreNamed b.variables → DeclaresVariables s.statement.form → AreNamed (behind_one b s).variables
form_named b s h n = by (resolved_here b s) refl
  where
    by : (r : Result Meaning FaultCode) → resolved_here b s ≡ r → AreNamed (behind_by b s.statement.form r).variables
    by (Ok m) e = declared_named b.variables s.expansion s.statement.form (behind_by b s.statement.form (Ok m)).variables (meant b s m e).names h n
    by (Err c) e = h

-- what lines spell declares names of variables
pub all_spelled : (ls : List Logical) (ss : List Statement) → AreSpelled ls ss → DeclareVariables ss
all_spelled [] [] e = tt
all_spelled [] (s ∷ ss) e = absurd cc
all_spelled (l ∷ ls) [] e = tt
all_spelled (l ∷ ls) (s ∷ ss) e = (declares_lettered s.form ((stated_names (words_of l)).names s.form e.0.form), all_spelled ls ss e.1)

-- the variables behind such statements have the names of variables, where those before them have
pub all_behind_named : (b : Behind) (all : List Placed) → AllLettered all → AreNamed b.variables → AreNamed (behind_all b all).variables
all_behind_named b [] e h = h
all_behind_named b (s ∷ ss) e h = all_behind_named (behind_one b s) ss e.1 (form_named b s h e.0)
