-- The CALLs that are told are those of the walk.
use Rattle.std.proofs.Common.{◌≡◌, ℕ, suc, ◌+◌, Bool, true, false, List, [], ◌∷◌, ◌++◌, Option, Some, None, refl, sym, ap, ◌∙◌}
use Rattle.std.specs.Prelude.{map}
use Rattle.vcm_forms.specs.declared.statement.Argument.{Argument}
use Rattle.vcm_forms.specs.declared.statement.Form.{Form}
use Rattle.vcm_forms.specs.declared.statement.Form.TheVariants.{Macro, MacroEnd, Call}
use Rattle.vcm_forms.specs.declared.statement.Statement.{Statement}
use Rattle.vcm_substitution.specs.Substitution.{Scope, outside, is_same, put_argument}
use Rattle.vcm_macro.specs.Walk.{Defined, Visit, Opens, Inside, Stands, Misplaced, Calls, calls_in, Caller, statement_in, body_in, call_in, misplaced_if}
use Rattle.vcm_macro.specs.Walk.{outside_in, waits_behind, text_from, walk_from, with_statement}
use Rattle.vcm_calls.specs.Carried.{called, Written, Carrier, carried_at, carried_in, carried, carried_text, carried_from, longer, calls_among, CarriesOutTheWalk}

-- a macro as it is written
abbrev written : Defined → Written
written m = record { name = m.name; body = m.body }

abbrev open_one : Option Defined → Option Written
open_one None = None
open_one (Some m) = Some (written m)

-- the CALLs among places one behind the other
among_both : (ps qs : List Visit) → calls_among (ps ++ qs) ≡ calls_among ps ++ calls_among qs
among_both [] qs = refl
among_both (Opens ms s ∷ ps) qs = among_both ps qs
among_both (Inside m s ∷ ps) qs = among_both ps qs
among_both (Stands e s ∷ ps) qs = among_both ps qs
among_both (Misplaced line ∷ ps) qs = among_both ps qs
among_both (Calls line depth m args ∷ ps) qs = ap (λ l. called line depth ∷ l) (among_both ps qs)

-- what is carried out is what is told, whatever stands before and whatever is given
abbrev Tells : Caller → Carrier → Type 0
Tells call carry = (line depth done : ℕ) (name : List ℕ) (args : List Argument) → calls_among (call line depth done name args) ≡ carry line depth name

-- one statement of a body
one_of_body : (call : Caller) (carry : Carrier) → Tells call carry → (sc : Scope) (depth done line : ℕ) (form : Form)
    → calls_among (statement_in call sc depth done line form) ≡ carried_at carry depth line form
one_of_body call carry t sc depth done line (Call name args) = t line depth done name (map (put_argument sc) args)
one_of_body call carry t sc depth done line _ = refl

-- a body
all_of_body : (call : Caller) (carry : Carrier) → Tells call carry → (sc : Scope) (depth done : ℕ) (ss : List Statement)
    → calls_among (body_in call sc depth done ss) ≡ carried_in carry depth ss
all_of_body call carry t sc depth done [] = refl
all_of_body call carry t sc depth done (s ∷ ss) =
    let ps = statement_in call sc depth done s.line s.form in
    let n = done + calls_in ps in
    among_both ps (body_in call sc depth n ss)
    ∙ ap (λ l. l ++ calls_among (body_in call sc depth n ss)) (one_of_body call carry t sc depth done s.line s.form)
    ∙ ap (λ l. carried_at carry depth s.line s.form ++ l) (all_of_body call carry t sc depth n ss)

-- a CALL
all_of_call : (ms : List Defined) → Tells (call_in ms) (carried (map written ms))
all_of_call [] line depth done name args = refl
all_of_call (m ∷ ms) line depth done name args =
    cases (is_same m.name name)
    (all_of_body (call_in ms) (carried (map written ms)) (all_of_call ms) (record { parameters = m.parameters; arguments = args; expansion = suc done }) (suc depth) (suc done) m.body)
    (all_of_call ms line depth done name args)
  where
    cases : (b : Bool)
        → calls_among (body_in (call_in ms) (record { parameters = m.parameters; arguments = args; expansion = suc done }) (suc depth) (suc done) m.body)
        ≡ carried_in (carried (map written ms)) (suc depth) m.body
        → calls_among (call_in ms line depth done name args) ≡ carried (map written ms) line depth name
        → calls_among (elim b [
          | true ↦ Calls line depth (Some m) args
              ∷ body_in (call_in ms) (record { parameters = m.parameters; arguments = args; expansion = suc done }) (suc depth) (suc done) m.body
          | false ↦ call_in ms line depth done name args
        ]) ≡ (elim b [
          | true ↦ called line depth ∷ carried_in (carried (map written ms)) (suc depth) m.body
          | false ↦ carried (map written ms) line depth name
        ])
    cases true h k = ap (λ l. called line depth ∷ l) h
    cases false h k = k

misplaced : (waits : Bool) (line : ℕ) (ps : List Visit) → calls_among (misplaced_if waits line ++ ps) ≡ calls_among ps
misplaced true line ps = refl
misplaced false line ps = refl

-- one statement outside macros
one_outside : (ms : List Defined) (waits : Bool) (done : ℕ) (s : Statement) (name : List ℕ) (args : List Argument) (on : List Visit)
    → calls_among (outside_in (call_in ms) waits done s (Call name args) ++ on) ≡ carried (map written ms) s.line 1 name ++ calls_among on
one_outside ms waits done s name args on =
    let ps = call_in ms s.line 1 done name (map (put_argument outside) args) in
    among_both (misplaced_if waits s.line ++ ps) on
    ∙ ap (λ l. l ++ calls_among on) (misplaced waits s.line ps ∙ all_of_call ms s.line 1 done name (map (put_argument outside) args))

-- what comes behind a statement tells the same
abbrev Goes : List Statement → Type 0
Goes ss = (ms : List Defined) (current : Option Defined) (waits : Bool) (done : ℕ)
    → calls_among (walk_from ms current waits done ss) ≡ carried_text (map written ms) (open_one current) ss

-- one statement of a text
one_of_text : (ss : List Statement) → Goes ss → (ms : List Defined) (current : Option Defined) (waits : Bool) (done : ℕ) (s : Statement) (form : Form)
    → calls_among (text_from ms current waits done s form (λ ns m w n. walk_from ns m w n ss))
    ≡ carried_from (map written ms) (open_one current) s form (λ ns m. carried_text ns m ss)
one_of_text ss goes ms None waits done s (Macro name ps) = goes ms (Some (record { name = name; parameters = ps; body = [] })) waits done
one_of_text ss goes ms None waits done s (Call name args) =
    let n = done + calls_in (outside_in (call_in ms) waits done s (Call name args)) in
    let w = waits_behind waits (Call name args) in
    one_outside ms waits done s name args (walk_from ms None w n ss) ∙ ap (λ l. carried (map written ms) s.line 1 name ++ l) (goes ms None w n)
one_of_text ss goes ms None waits done s form = goes ms None (waits_behind waits form) (done + 0)
one_of_text ss goes ms (Some m) waits done s MacroEnd = goes (m ∷ ms) None waits done
one_of_text ss goes ms (Some m) waits done s form = goes ms (Some (with_statement m s)) waits done

all_of_text : (ss : List Statement) → Goes ss
all_of_text [] ms current waits done = refl
all_of_text (s ∷ ss) ms current waits done = one_of_text ss (all_of_text ss) ms current waits done s s.form

pub carries_out : CarriesOutTheWalk
carries_out ss = sym (all_of_text ss [] None false 0)
