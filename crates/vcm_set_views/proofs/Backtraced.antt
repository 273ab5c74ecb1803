-- A step whose backtrace is wanted.
use Rattle.std.proofs.Common.{◌≡◌, ℕ, suc, true, List, [], ◌∷◌, ◌++◌, length, slice_get, Option, Vec, Global, refl, sym, ap, ◌∙◌}
use Rattle.std.specs.Prelude.{cond, map}
use Rattle.vcm_spec.specs.Setup.{Tables}
use Rattle.vcm_code.specs.Code.{CodeStatement}
use Rattle.vcm_spec.specs.Workpiece.{Workpiece}
use Rattle.vcm_probe_set.specs.Probes.{Probe}
use Rattle.vcm_turning.specs.Steps.{TurnedStep}
use Rattle.vcm_backtrace.specs.Sources.{Sourced}
use Rattle.vcm_backtrace.specs.Backtrace.{backtrace_lines, round_on}
use Rattle.vcm_set_views.specs.Chains.{Chain}
use Rattle.vcm_set_views.specs.Backtraces.{SoFar, is_wanted, told_behind, HasTold}

abbrev pub so_far : List (List ℕ) → List ℕ → SoFar
so_far texts rounds = record { texts = texts; rounds = rounds }

-- its text is added to those before
pub told_one : (s : Option Sourced) (ss : List CodeStatement) (tables : Tables) (wanted : List ℕ) (texts after : List (List ℕ)) (rounds later line : List ℕ) (step : TurnedStep)
    → is_wanted (slice_get wanted (length texts)) step.passage.count ≡ true → later ≡ round_on rounds step.passage
    → line ≡ backtrace_lines s ss tables step.passage.after.variables later step.passage.number → after ≡ texts ++ line ∷ []
    → HasTold s ss tables wanted texts rounds after later step
told_one s ss tables wanted texts after rounds later line step is round lines put =
    let p = step.passage in
    let text = λ (r : List ℕ). backtrace_lines s ss tables p.after.variables r p.number in
    let now = round_on rounds p in
    let here : line ≡ text now = lines ∙ ap text round in
    let told = ap (λ l. texts ++ l ∷ []) here ∙ sym (ap (λ b. cond b (texts ++ text now ∷ []) texts) is) in
    ap (λ t. so_far t later) (put ∙ told) ∙ ap (so_far _) round

-- texts with one more
one_more : (ts : List (Vec ℕ Global)) (t : Vec ℕ Global) → map (λ (v : Vec ℕ Global). v.items) (ts ++ t ∷ []) ≡ map (λ (v : Vec ℕ Global). v.items) ts ++ t.items ∷ []
one_more [] t = refl
one_more (s ∷ ts) t = ap (λ l. s.items ∷ l) (one_more ts t)

as_many : (ts : List (Vec ℕ Global)) → length (map (λ (v : Vec ℕ Global). v.items) ts) ≡ length ts
as_many [] = refl
as_many (t ∷ ts) = ap suc (as_many ts)

-- so of texts in memory
pub told_more : (s : Option Sourced) (ss : List CodeStatement) (tables : Tables) (wanted : List ℕ) (texts after : List (Vec ℕ Global)) (rounds later : List ℕ) (text : Vec ℕ Global) (step : TurnedStep)
    → is_wanted (slice_get wanted (length texts)) step.passage.count ≡ true → later ≡ round_on rounds step.passage
    → text.items ≡ backtrace_lines s ss tables step.passage.after.variables later step.passage.number → after ≡ texts ++ text ∷ []
    → HasTold s ss tables wanted (map (λ (v : Vec ℕ Global). v.items) texts) rounds (map (λ (v : Vec ℕ Global). v.items) after) later step
told_more s ss tables wanted texts after rounds later text step is round lines put =
    let items = λ (v : Vec ℕ Global). v.items in
    told_one s ss tables wanted (map items texts) (map items after) rounds later text.items step (ap (λ n. is_wanted (slice_get wanted n) step.passage.count) (as_many texts) ∙ is) round lines
    (ap (map items) put ∙ one_more texts text)

-- where each step was told so, all were
pub told_all : {To : Type 0} → (texts : To → List (List ℕ)) (rounds : To → List ℕ) (s : Option Sourced) (ss : List CodeStatement) (tables : Tables) (wanted : List ℕ) (part : Workpiece)
    (ps : List Probe) (from to : To) (steps : List TurnedStep)
    → Chain (λ a b step marks. HasTold s ss tables wanted (texts a) (rounds a) (texts b) (rounds b) step) part ps from to steps
    → so_far (texts to) (rounds to) ≡ told_behind s ss tables wanted (so_far (texts from) (rounds from)) steps
told_all texts rounds s ss tables wanted part ps from to [] h = ap (λ x. so_far (texts x) (rounds x)) (sym h)
told_all texts rounds s ss tables wanted part ps from to (step ∷ steps) h =
    told_all texts rounds s ss tables wanted part ps h.0 to steps h.2 ∙ ap (λ t. told_behind s ss tables wanted t steps) h.1
