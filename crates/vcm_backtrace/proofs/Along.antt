-- What is told of each step, as it is taken.
use Rattle.std.proofs.Common.{◌≡◌, ℕ, zero, suc, ◌+◌, arith, List, [], ◌∷◌, ◌++◌, Option, Some, None, refl, sym, ap, ◌∙◌, subst}
use Rattle.std.specs.Prelude.{replicate, slice_get}
use Rattle.vcm_spec.specs.declared.stop.StopPlace.{StopPlace}
use Rattle.vcm_spec.specs.Setup.{Tables}
use Rattle.vcm_spec.specs.Stepping.{unless_stopped}
use Rattle.vcm_spec.specs.Workpiece.{Workpiece}
use Rattle.vcm_spec.proofs.Steps.{add_steps}
use Rattle.vcm_code.specs.Code.{CodeStatement}
use Rattle.vcm_code.specs.declared.code.Code.{Code}
use Rattle.vcm_code.specs.CodeTable.{CodeState, code_step, start}
use Rattle.vcm_steps.specs.Passages.{Passage, passage_at, passage_from, passages, setup_with, state_after}
use Rattle.vcm_cause.specs.Behind.{Behind, one_behind, behind, before_steps, behind_run}
use Rattle.vcm_backtrace.specs.Sources.{Sourced}
use Rattle.vcm_backtrace.specs.Backtrace.{backtrace_lines, backtrace_at, round_on, rounds_along, IsToldAlong}
use Rattle.vcm_backtrace.specs.Laws.{BacktracesAreToldAlong}

-- the rounds behind steps are those that are known behind them
pub rounds_are : (part : Workpiece) (b : Behind) (ps : List Passage) → (behind part b ps).rounds ≡ rounds_along b.rounds ps
rounds_are part b [] = refl
rounds_are part b (p ∷ ps) = rounds_are part (one_behind part b p) ps

pub along_more : (rounds : List ℕ) (ps qs : List Passage) → rounds_along rounds (ps ++ qs) ≡ rounds_along (rounds_along rounds ps) qs
along_more rounds [] qs = refl
along_more rounds (p ∷ ps) qs = along_more (round_on rounds p) ps qs

module _ (below : (step number : ℕ) → List ℕ) (s : Option Sourced) (ss : List CodeStatement) (tables : Tables) where
  -- at steps, and at those behind them
  pub told_more : (rounds : List ℕ) (ps qs : List Passage) → IsToldAlong below s ss tables rounds ps → IsToldAlong below s ss tables (rounds_along rounds ps) qs
      → IsToldAlong below s ss tables rounds (ps ++ qs)
  told_more rounds [] qs a b = b
  told_more rounds (p ∷ ps) qs a b = (a.0, told_more (round_on rounds p) ps qs a.1 b)

  -- at the first of them, and at the last
  pub told_front : (rounds : List ℕ) (ps qs : List Passage) → IsToldAlong below s ss tables rounds (ps ++ qs) → IsToldAlong below s ss tables rounds ps
  told_front rounds [] qs a = tt
  told_front rounds (p ∷ ps) qs a = (a.0, told_front (round_on rounds p) ps qs a.1)

  pub told_last : (rounds : List ℕ) (ps : List Passage) (p : Passage) → IsToldAlong below s ss tables rounds (ps ++ p ∷ [])
      → below p.count p.number ≡ backtrace_lines s ss tables p.after.variables (rounds_along rounds (ps ++ p ∷ [])) p.number
  told_last rounds [] p a = a.0
  told_last rounds (q ∷ ps) p a = told_last (round_on rounds q) ps p a.1

module _ (s : Option Sourced) (part : Workpiece) (c : Code) where
  abbrev none : List ℕ
  none = replicate 32 0

  abbrev go : CodeState → CodeState
  go m = code_step (setup_with part c) c.statements m

  -- the rounds behind so many steps
  at_step : (n : ℕ) → (behind_run part c n).rounds ≡ rounds_along none (passages part c n)
  at_step n = rounds_are part before_steps (passages part c n)

  -- one more step
  next_state : (k : ℕ) → state_after part c (suc k) ≡ go (state_after part c k)
  next_state k = ap (state_after part c) (let e : suc k ≡ k + 1 = omega arith in e) ∙ add_steps go k 1 (start (setup_with part c))

  abbrev Told : ℕ → List Passage → Type 0
  Told k ps = IsToldAlong (backtrace_at s part c) s c.statements c.tables (rounds_along none (passages part c k)) ps

  module _ (k : ℕ) where
    abbrev m : CodeState
    m = state_after part c k

    abbrev taken : Option StopPlace → Option CodeStatement → List Passage
    taken o t = unless_stopped o [] (passage_at (suc k) m (go m) t)

    -- the step that is taken, if one is
    one_told : (o : Option StopPlace) (t : Option CodeStatement) → passage_from part c (suc k) m ≡ taken o t → Told k (taken o t)
    one_told (Some p) t e = tt
    one_told None None e = tt
    one_told None (Some st) e =
        let values : (state_after part c (suc k)).world.variables ≡ (go m).world.variables = ap (λ (x : CodeState). x.world.variables) (next_state k) in
        let rounds : (behind_run part c (suc k)).rounds ≡ rounds_along (rounds_along none (passages part c k)) (taken None (Some st)) =
        at_step (suc k) ∙ ap (λ (l : List Passage). rounds_along none (passages part c k ++ l)) e ∙ along_more none (passages part c k) (taken None (Some st)) in (
          ap (λ vs. backtrace_lines s c.statements c.tables vs (behind_run part c (suc k)).rounds m.next) values
              ∙ ap (λ rs. backtrace_lines s c.statements c.tables (go m).world.variables rs m.next) rounds,
          tt,
        )

    next_told : Told k (passage_from part c (suc k) m)
    next_told = subst (Told k) refl (one_told m.world.stop (slice_get c.statements m.next) refl)

  pub told_along : (n : ℕ) → IsToldAlong (backtrace_at s part c) s c.statements c.tables none (passages part c n)
  told_along zero = tt
  told_along (suc k) =
      told_more (backtrace_at s part c) s c.statements c.tables none (passages part c k) (passage_from part c (suc k) (state_after part c k)) (told_along k) (next_told k)

pub backtraces_told : BacktracesAreToldAlong
backtraces_told s part c n = told_along s part c n
