-- As long as the tip is that of the part file and nothing turns, the state is that of the run.
use Rattle.std.proofs.Common.{◌≡◌, ℕ, zero, suc, ◌+◌, Bool, true, false, List, [], ◌∷◌, ◌++◌, slice_get, Option, Some, None, refl, sym, ap, ◌∙◌, arith}
use Rattle.std.specs.List.{AllByRecursion}
use Rattle.vcm_num.specs.declared.point.Point.{Point}
use Rattle.vcm_spec.specs.declared.stop.StopPlace.{StopPlace}
use Rattle.vcm_spec.specs.Setup.{setup_of}
use Rattle.vcm_spec.specs.Stepping.{unless_stopped}
use Rattle.vcm_spec.specs.Workpiece.{Workpiece}
use Rattle.vcm_spec.proofs.Steps.{add_steps}
use Rattle.vcm_code.specs.Code.{CodeStatement}
use Rattle.vcm_code.specs.declared.code.Code.{Code}
use Rattle.vcm_code.specs.CodeTable.{CodeState, code_state, code_step, fetched, start}
use Rattle.vcm_steps.specs.Passages.{state_after}
use Rattle.vcm_probe_set.specs.Probes.{Probe}
use Rattle.vcm_turning.specs.declared.ended.NoProbe.{NoProbe}
use Rattle.vcm_turning.specs.Turning.{Turned, is_lost, put_behind, put_on, stepped, left, taken, by_loss, turn_at, unless_ended, turned_after}
use Rattle.vcm_turning.specs.Steps.{TurnedStep, step_between, steps_at, steps_from, turned_steps}
use Rattle.vcm_turning.specs.Laws.{stands_behind, IsStill, FirstStepsAreTheRun}

all_front : {X : Type 0} (P : X → Type 0) (xs ys : List X) → AllByRecursion P (xs ++ ys) → AllByRecursion P xs
all_front P [] ys h = tt
all_front P (x ∷ xs) ys h = (h.0, all_front P xs ys h.1)

all_back : {X : Type 0} (P : X → Type 0) (xs ys : List X) → AllByRecursion P (xs ++ ys) → AllByRecursion P ys
all_back P [] ys h = h
all_back P (x ∷ xs) ys h = all_back P xs ys h.1

module _ (part : Workpiece) (ps : List Probe) (v : ℕ) (c : Code) where
  abbrev go : CodeState → CodeState
  go = code_step (setup_of part c.tables) c.statements

  -- a stopped state doesn't change
  rests : (m : CodeState) (p : StopPlace) → m.world.stop ≡ Some p → go m ≡ m
  rests m p e = ap (λ (o : Option StopPlace). unless_stopped o m (fetched (setup_of part c.tables) (slice_get c.statements m.next) m.world m.next m.pairs)) e

  -- nor does one that has no next statement
  stuck : (m : CodeState) → m.world.stop ≡ None → slice_get c.statements m.next ≡ None → go m ≡ m
  stuck m e f =
      ap (λ (o : Option StopPlace). unless_stopped o m (fetched (setup_of part c.tables) (slice_get c.statements m.next) m.world m.next m.pairs)) e
      ∙ ap (λ (o : Option CodeStatement). fetched (setup_of part c.tables) o m.world m.next m.pairs) f

  -- a probe that is put on and leaves the tip where it is changes no state
  put_still : (m : CodeState) (on o : Option ℕ) → stands_behind ps on o m.world.position ≡ m.world.position → (put_on ps m on o).state ≡ m
  put_still m on None e = refl
  put_still m on (Some i) e = ap (λ (p : Point). code_state (record (m.world) { position = p }) m.next m.pairs) e

  -- a step that is one of the run
  record IsOfRun (t r : Turned) : Type 0 where
    ended : t.ended ≡ None
    state : r.state ≡ go t.state

  module _ (count : ℕ) (t : Turned) (none : t.ended ≡ None) where
    abbrev Still : List TurnedStep → Type 0
    Still = AllByRecursion (IsStill part ps)

    by_lost : (s : CodeStatement) (b : Bool) → Still (by_loss b [] (step_between ps v count t s (stepped part ps c t) (taken part ps v c t) ∷ []))
        → (by_loss b (left v t s) (taken part ps v c t)).ended ≡ None → IsOfRun t (by_loss b (left v t s) (taken part ps v c t))
    by_lost s true h k = absurd cc
    by_lost s false h k = record {
      ended = none;
      state = put_still (stepped part ps c t) t.on (put_behind ps v (stepped part ps c t) t.on) h.0.1
          ∙ ap (λ (p : Workpiece). code_step (setup_of p c.tables) c.statements t.state) h.0.0;
    }

    module _ (running : t.state.world.stop ≡ None) where
      at : (o : Option CodeStatement) → slice_get c.statements t.state.next ≡ o → Still (steps_at part ps v c count t o)
          → (turn_at part ps v c t o).ended ≡ None → IsOfRun t (turn_at part ps v c t o)
      at None e h k = record { ended = none; state = sym (stuck t.state running e) }
      at (Some s) e h k = by_lost s (is_lost part.bounds.home ps v t s.op) h k

    by_stop : (o : Option StopPlace) → t.state.world.stop ≡ o → Still (unless_stopped o [] (steps_at part ps v c count t (slice_get c.statements t.state.next)))
        → (unless_stopped o t (turn_at part ps v c t (slice_get c.statements t.state.next))).ended ≡ None
        → IsOfRun t (unless_stopped o t (turn_at part ps v c t (slice_get c.statements t.state.next)))
    by_stop (Some p) e h k = record { ended = none; state = sym (rests t.state p e) }
    by_stop None e h k = at e (slice_get c.statements t.state.next) refl h k

  abbrev one_step : Option NoProbe → Turned → Turned
  one_step o t = unless_ended o t (unless_stopped t.state.world.stop t (turn_at part ps v c t (slice_get c.statements t.state.next)))

  step_is : (count : ℕ) (t : Turned) (o : Option NoProbe) → t.ended ≡ o
      → AllByRecursion (IsStill part ps) (unless_ended o [] (unless_stopped t.state.world.stop [] (steps_at part ps v c count t (slice_get c.statements t.state.next))))
      → (one_step o t).ended ≡ None → IsOfRun t (one_step o t)
  step_is count t (Some e) f h k = absurd cc
  step_is count t None f h k = by_stop count t f t.state.world.stop refl h k

  next_state : (n : ℕ) → state_after part c (suc n) ≡ go (state_after part c n)
  next_state n = ap (state_after part c) (let e : suc n ≡ n + 1 = omega arith in e) ∙ add_steps go n 1 (start (setup_of part c.tables))

  pub of_run : (n : ℕ) → AllByRecursion (IsStill part ps) (turned_steps part ps v c n) → (turned_after part ps v c n).ended ≡ None
      → (turned_after part ps v c n).state ≡ state_after part c n
  of_run zero h k = refl
  of_run (suc n) h k =
      let t = turned_after part ps v c n in
      let all = turned_steps part ps v c n in
      let more = steps_from part ps v c (suc n) t in
      let s = step_is (suc n) t t.ended refl (all_back (IsStill part ps) all more h) k in
      s.state ∙ ap go (of_run n (all_front (IsStill part ps) all more h) s.ended) ∙ sym (next_state n)

pub first_steps : FirstStepsAreTheRun
first_steps part ps v c n = of_run part ps v c n
