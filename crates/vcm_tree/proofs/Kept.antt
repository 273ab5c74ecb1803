-- What an expanded program keeps of its text: the names that it declares, and ENDFIL as its last statement.
use Rattle.std.proofs.Common.{◌≡◌, ℕ, suc, ◌+◌, Bool, true, false, ◌&&◌, ◌||◌, not, List, [], ◌∷◌, ◌++◌, length, Option, Some, None, refl, sym, ap, ◌∙◌, subst, append_assoc, arith}
use Rattle.std.specs.Prelude.{IsTrue, map, if◌then◌else◌}
use Rattle.std.specs.List.{AllByRecursion}
use Rattle.vcm_lines.specs.declared.fault.FaultCode.TheVariants.{BadOrder}
use Rattle.vcm_spec.specs.Phase.{IsClean}
use Rattle.vcm_items.specs.NameBytes.{IsVariableName}
use Rattle.vcm_forms.specs.declared.statement.Argument.{Argument}
use Rattle.vcm_forms.specs.declared.statement.Form.{Form}
use Rattle.vcm_forms.specs.declared.statement.Form.TheVariants.{Opening, Measures, Ignored, Declaration, Macro, MacroEnd, Call, Ending}
use Rattle.vcm_forms.specs.declared.statement.Statement.{Statement}
use Rattle.vcm_macro.specs.declared.placed.Placed.{Placed}
use Rattle.vcm_macro.specs.Expansion.{IsExpanded}
use Rattle.vcm_macro.specs.Order.{nothing_before, is_ending, is_open_behind, order_after, wants_units, is_misplaced, BreaksOrder}
use Rattle.vcm_macro.specs.Rules.{is_there, kept}
use Rattle.vcm_substitution.specs.Kept.{is_kept}
use Rattle.vcm_substitution.specs.Substitution.{Scope, outside, is_same, put_argument}
use Rattle.vcm_macro.specs.Walk.{Defined, Visit, Opens, Inside, Calls, calls_in, Caller, statement_in, body_in, call_in, with_statement, waits_behind}
use Rattle.vcm_macro.specs.Walk.{misplaced_if, Following, text_from, walk_from, outside_in}
use Rattle.std.proofs.lemmas.List.{append-nil}
use Rattle.vcm_macro.proofs.Orders.{order_push}
use Rattle.vcm_macro.proofs.Walks.{kept_append}
use Rattle.vcm_tree.specs.Ended.{is_ended}
use Rattle.vcm_tree.specs.Declaring.{DeclaresVariables, DeclareVariables, PlacedDeclareVariables}
use Rattle.vcm_tree.proofs.Cutting.{place, clean_end}

-- ---- names that are declared

-- names of variables
abbrev pub Letters : List (List ℕ) → Type 0
Letters names = AllByRecursion IsVariableName names

-- and what each of an expanded program does
abbrev pub AllLettered : List Placed → Type 0
AllLettered all = PlacedDeclareVariables all

-- and what is left of places
abbrev LeavesLettered : List Visit → Type 0
LeavesLettered ps = AllLettered (kept ps)

-- the bodies of macros
abbrev BodiesLettered : List Defined → Type 0
BodiesLettered [] = Unit {0}
BodiesLettered (m ∷ ms) = DeclareVariables m.body × BodiesLettered ms

-- what is written so far of the macro that is open
abbrev OpenLettered : Option Defined → Type 0
OpenLettered None = Unit {0}
OpenLettered (Some m) = DeclareVariables m.body

-- a CALL, wherever it stands
abbrev CallsLettered : Caller → Type 0
CallsLettered call = (line depth done : ℕ) (name : List ℕ) (args : List Argument) → LeavesLettered (call line depth done name args)

all_append : (ps qs : List Placed) → AllLettered ps → AllLettered qs → AllLettered (ps ++ qs)
all_append [] qs g h = h
all_append (p ∷ ps) qs g h = (g.0, all_append ps qs g.1 h)

left_append : (ps qs : List Visit) → LeavesLettered ps → LeavesLettered qs → LeavesLettered (ps ++ qs)
left_append ps qs g h = subst AllLettered (sym (kept_append ps qs)) (all_append (kept ps) (kept qs) g h)

one_more : (ss : List Statement) (s : Statement) → DeclareVariables ss → DeclaresVariables s.form → DeclareVariables (ss ++ s ∷ [])
one_more [] s g h = (h, tt)
one_more (t ∷ ss) s g h = (g.0, one_more ss s g.1 h)

-- substitution leaves a declaration as it is
statement_lettered : (call : Caller) (sc : Scope) (depth done line : ℕ) (form : Form) → CallsLettered call → DeclaresVariables form → LeavesLettered (statement_in call sc depth done line form)
statement_lettered call sc depth done line (Call name args) c h = c line depth done name (map (put_argument sc) args)
statement_lettered call sc depth done line (Declaration k names) c h = (h, tt)
statement_lettered call sc depth done line Opening c h = tt
statement_lettered call sc depth done line Measures c h = tt
statement_lettered call sc depth done line (Ignored w) c h = tt
statement_lettered call sc depth done line (Macro name ps) c h = tt
statement_lettered call sc depth done line MacroEnd c h = tt
statement_lettered call sc depth done line _ c h = (tt, tt)

body_lettered : (call : Caller) (sc : Scope) (depth done : ℕ) (ss : List Statement) → CallsLettered call → DeclareVariables ss → LeavesLettered (body_in call sc depth done ss)
body_lettered call sc depth done [] c h = tt
body_lettered call sc depth done (s ∷ ss) c h =
    let here = statement_in call sc depth done s.line s.form in
    left_append here (body_in call sc depth (done + calls_in here) ss) (statement_lettered call sc depth done s.line s.form c h.0) (body_lettered call sc depth (done + calls_in here) ss c h.1)

call_lettered : (ms : List Defined) → BodiesLettered ms → CallsLettered (call_in ms)
call_lettered [] h line depth done name args = tt
call_lettered (m ∷ ms) h line depth done name args = by_name (is_same m.name name) h.0 (call_lettered ms h.1)
  where
    by_name : (b : Bool) → DeclareVariables m.body → CallsLettered (call_in ms)
        → LeavesLettered (elim b [
          | true ↦ Calls line depth (Some m) args
              ∷ body_in (call_in ms) (record { parameters = m.parameters; arguments = args; expansion = suc done }) (suc depth) (suc done) m.body
          | false ↦ call_in ms line depth done name args
        ])
    by_name true g c = body_lettered (call_in ms) (record { parameters = m.parameters; arguments = args; expansion = suc done }) (suc depth) (suc done) m.body c g
    by_name false g c = c line depth done name args

-- a statement outside macros stays as it is
stands_lettered : (s : Statement) (b : Bool) → DeclaresVariables s.form → AllLettered ((if b then record { statement = s; expansion = 0 } ∷ [] else []) ++ [])
stands_lettered s true h = (h, tt)
stands_lettered s false h = tt

-- of a CALL where a block has to begin nothing is left
misplaced_lettered : (waits : Bool) (line : ℕ) → LeavesLettered (misplaced_if waits line)
misplaced_lettered true line = tt
misplaced_lettered false line = tt

outside_lettered : (call : Caller) (waits : Bool) (done : ℕ) (s : Statement) (form : Form) → CallsLettered call → DeclaresVariables s.form → LeavesLettered (outside_in call waits done s form)
outside_lettered call waits done s (Call name args) c h =
    let called = call s.line 1 done name (map (put_argument outside) args) in
    left_append (misplaced_if waits s.line) called (misplaced_lettered waits s.line) (c s.line 1 done name (map (put_argument outside) args))
outside_lettered call waits done s _ c h = stands_lettered s (is_kept s.form) h

text_lettered : (ms : List Defined) (current : Option Defined) (waits : Bool) (done : ℕ) (s : Statement) (form : Form) (on : Following) → BodiesLettered ms
    → OpenLettered current → DeclaresVariables s.form
    → ((ns : List Defined) (m : Option Defined) (w : Bool) (n : ℕ) → BodiesLettered ns → OpenLettered m → LeavesLettered (on ns m w n)) → LeavesLettered (text_from ms current waits done s form on)
text_lettered ms None waits done s (Macro name ps) on h o e go = go ms (Some (record { name = name; parameters = ps; body = [] })) waits done h tt
text_lettered ms None waits done s form on h o e go =
    let here = outside_in (call_in ms) waits done s form in
    left_append here (on ms None (waits_behind waits form) (done + calls_in here)) (outside_lettered (call_in ms) waits done s form (call_lettered ms h) e)
    (go ms None (waits_behind waits form) (done + calls_in here) h tt)
text_lettered ms (Some m) waits done s MacroEnd on h o e go = go (m ∷ ms) None waits done (o, h) tt
text_lettered ms (Some m) waits done s form on h o e go = go ms (Some (with_statement m s)) waits done h (one_more m.body s o e)

walk_lettered : (ms : List Defined) (current : Option Defined) (waits : Bool) (done : ℕ) (ss : List Statement) → BodiesLettered ms → OpenLettered current → DeclareVariables ss
    → LeavesLettered (walk_from ms current waits done ss)
walk_lettered ms current waits done [] h o l = tt
walk_lettered ms current waits done (s ∷ ss) h o l =
    text_lettered ms current waits done s s.form (λ ns m w n. walk_from ns m w n ss) h o l.0 (λ ns m w n g p. walk_lettered ns m w n ss g p l.1)

-- what the written statements declare has the names of variables, so what the expanded ones declare has them
pub lettered_all : (ss : List Statement) (all : List Placed) → IsExpanded ss all → DeclareVariables ss → AllLettered all
lettered_all ss all x l = subst AllLettered (sym x.is) (walk_lettered [] None false 0 ss tt tt l)

-- ---- ENDFIL

-- statements in their order behind others, one by one: none is out of its place, and an ENDFIL stands before the end
abbrev InOrder : List Statement → List Statement → Type 0
InOrder before [] = (order_after nothing_before before).ended ≡ true
InOrder before (s ∷ ss) = (is_misplaced (order_after nothing_before before) s.form ≡ false) × InOrder (before ++ s ∷ []) ss

not_so : (b : Bool) → (b ≡ true → ⊥) → b ≡ false
not_so true none = absurd (none refl)
not_so false none = refl

so : (b : Bool) → (not b ≡ true → ⊥) → b ≡ true
so true none = refl
so false none = absurd (none refl)

in_order : (before ss : List Statement) → IsClean BreaksOrder (before ++ ss) → InOrder before ss
in_order before [] clean =
    let all = subst (IsClean BreaksOrder) (append-nil before) clean in
    so (order_after nothing_before before).ended (λ e. clean_end BreaksOrder before BadOrder all e)
in_order before (s ∷ ss) clean =
    let p = place before s ss in
    let here = not_so (is_misplaced (order_after nothing_before before) s.form) (λ m. clean.unbroken (length before) BadOrder (let l = p.2 in omega arith) (rw (p.0, p.1) m)) in
    (here, in_order (before ++ s ∷ []) ss (subst (IsClean BreaksOrder) (sym (append_assoc before (s ∷ []) ss)) clean))

-- what stands before the statement behind another one
begun_behind : (before : List Statement) (s : Statement) → (order_after nothing_before (before ++ s ∷ [])).begun ≡ true
begun_behind before s = rw (order_push nothing_before before s) refl

opened_behind : (before : List Statement) (s : Statement) → (order_after nothing_before (before ++ s ∷ [])).opened ≡ is_open_behind (order_after nothing_before before).opened s.form
opened_behind before s = rw (order_push nothing_before before s) refl

ended_behind : (before : List Statement) (s : Statement) (b : Bool) → (order_after nothing_before before).ended ≡ false → is_ending s.form ≡ b
    → (order_after nothing_before (before ++ s ∷ [])).ended ≡ b
ended_behind before s b e t = rw (order_push nothing_before before s) (ap (λ c. c || is_ending s.form) e ∙ t)

-- how a walk goes on behind a statement: behind some places, and a macro is open or not
record GoesOn (all : List Visit) (on : Following) (opened : Bool) : Type 0 where
  places : List Visit
  macros : List Defined
  current : Option Defined
  waits : Bool
  calls : ℕ
  is : all ≡ places ++ on macros current waits calls
  opens : is_there current ≡ opened

goes_on : (ms : List Defined) (current : Option Defined) (waits : Bool) (done : ℕ) (s : Statement) (form : Form) (on : Following)
    → GoesOn (text_from ms current waits done s form on) on (is_open_behind (is_there current) form)
goes_on ms None waits done s (Macro name ps) on = record {
  places = Opens ms s ∷ [];
  macros = ms;
  current = Some (record { name = name; parameters = ps; body = [] });
  waits = waits;
  calls = done;
  is = refl;
  opens = refl;
}
goes_on ms None waits done s form on =
    let here = outside_in (call_in ms) waits done s form in
    record { places = here; macros = ms; current = None; waits = waits_behind waits form; calls = done + calls_in here; is = refl; opens = refl }
goes_on ms (Some m) waits done s MacroEnd on = record { places = Inside m s ∷ []; macros = m ∷ ms; current = None; waits = waits; calls = done; is = refl; opens = refl }
goes_on ms (Some m) waits done s form on =
    record { places = Inside m s ∷ []; macros = ms; current = Some (with_statement m s); waits = waits; calls = done; is = refl; opens = refl }

last_behind : (ps qs : List Placed) → is_ended qs ≡ true → is_ended (ps ++ qs) ≡ true
last_behind [] qs e = e
last_behind (p ∷ []) [] e = absurd cc
last_behind (p ∷ []) (q ∷ qs) e = e
last_behind (p ∷ r ∷ ps) qs e = last_behind (r ∷ ps) qs e

left_behind : (ps qs : List Visit) → is_ended (kept qs) ≡ true → is_ended (kept (ps ++ qs)) ≡ true
left_behind ps qs e = ap is_ended (kept_append ps qs) ∙ last_behind (kept ps) (kept qs) e

pub ending_is : (form : Form) → is_ending form ≡ true → form ≡ Ending
ending_is Ending e = refl
ending_is _ e = absurd cc

-- ENDFIL in its place stands outside macros
not_open : (begun ended opened other : Bool) → (if begun then ended || (opened || other) else true) ≡ false → opened ≡ false
not_open true true opened other e = absurd cc
not_open true false true other e = absurd cc
not_open true false false other e = refl
not_open false ended opened other e = absurd cc

-- and behind it nothing does
nothing_more : (before ss : List Statement) → (order_after nothing_before before).begun ≡ true → (order_after nothing_before before).ended ≡ true → InOrder before ss → ss ≡ []
nothing_more before [] b e h = refl
nothing_more before (s ∷ ss) b e h =
    (let out : is_misplaced (order_after nothing_before before) s.form ≡ true = rw (b, e) refl in let both : true ≡ false = sym out ∙ h.0 in absurd cc)

ended_here : (ms : List Defined) (current : Option Defined) (waits : Bool) (done : ℕ) (s : Statement) (ss : List Statement) → is_there current ≡ false → s.form ≡ Ending → ss ≡ []
    → is_ended (kept (walk_from ms current waits done (s ∷ ss))) ≡ true
ended_here ms (Some m) waits done s ss c f e = absurd cc
ended_here ms None waits done s ss c f e =
    ap (λ (form : Form). is_ended (kept (text_from ms None waits done (record { line = s.line; form = form }) form (λ ns m w n. walk_from ns m w n ss)))) f
    ∙ ap (λ (l : List Statement). is_ended (kept (text_from ms None waits done (record { line = s.line; form = Ending }) Ending (λ ns m w n. walk_from ns m w n l)))) e

ended_by : (ms : List Defined) (current : Option Defined) (waits : Bool) (done : ℕ) (before : List Statement) (s : Statement) (ss : List Statement) (b : Bool) → is_ending s.form ≡ b
    → is_there current ≡ (order_after nothing_before before).opened → (order_after nothing_before before).ended ≡ false → InOrder before (s ∷ ss)
    → (g : GoesOn (walk_from ms current waits done (s ∷ ss)) (λ ns m w n. walk_from ns m w n ss) (is_open_behind (is_there current) s.form))
    → ((order_after nothing_before (before ++ s ∷ [])).ended ≡ false → is_ended (kept (walk_from g.macros g.current g.waits g.calls ss)) ≡ true)
    → is_ended (kept (walk_from ms current waits done (s ∷ ss))) ≡ true
ended_by ms current waits done before s ss true t c e h g next =
    let form = ending_is s.form t in
    let o = order_after nothing_before before in
    let out = not_open o.begun o.ended o.opened (wants_units Ending && not o.measured) (ap (is_misplaced o) (sym form) ∙ h.0) in
    ended_here ms current waits done s ss (c ∙ out) form (nothing_more (before ++ s ∷ []) ss (begun_behind before s) (ended_behind before s true e t) h.1)
ended_by ms current waits done before s ss false t c e h g next =
    subst (λ (ps : List Visit). is_ended (kept ps) ≡ true) (sym g.is) (left_behind g.places (walk_from g.macros g.current g.waits g.calls ss) (next (ended_behind before s false e t)))

ended_from : (ms : List Defined) (current : Option Defined) (waits : Bool) (done : ℕ) (before ss : List Statement) → is_there current ≡ (order_after nothing_before before).opened
    → (order_after nothing_before before).ended ≡ false → InOrder before ss → is_ended (kept (walk_from ms current waits done ss)) ≡ true
ended_from ms current waits done before [] c e h = (let both : true ≡ false = sym h ∙ e in absurd cc)
ended_from ms current waits done before (s ∷ ss) c e h =
    let g = goes_on ms current waits done s s.form (λ ns m w n. walk_from ns m w n ss) in
    ended_by ms current waits done before s ss (is_ending s.form) refl c e h g
    (λ f. ended_from g.macros g.current g.waits g.calls (before ++ s ∷ []) ss (g.opens ∙ ap (λ b. is_open_behind b s.form) c ∙ sym (opened_behind before s)) f h.1)

-- the last statement of the text is ENDFIL, which stands outside macros, so it is the last one of the expanded program
pub ended_all : (ss : List Statement) (all : List Placed) → IsExpanded ss all → IsTrue (is_ended all)
ended_all ss all x = subst (λ (ps : List Placed). IsTrue (is_ended ps)) (sym x.is) (ended_from [] None false 0 [] ss refl refl (in_order [] ss x.order))
