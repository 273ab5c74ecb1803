-- The steps of a run, one after another.
use Rattle.std.specs.Prelude.{◌<◌}
use Rattle.std.proofs.Common.{◌≡◌, ℕ, zero, suc, ◌+◌, ◌-◌, ◌≤◌, List, [], ◌∷◌, ◌++◌, slice_get, Option, Some, None, refl, sym, ap, ◌∙◌, subst, arith, append_assoc}
use Rattle.std.proofs.lemmas.List.{append-nil}
use Rattle.vcm_spec.specs.declared.stop.StopPlace.{StopPlace}
use Rattle.vcm_spec.specs.Workpiece.{Workpiece}
use Rattle.vcm_spec.specs.Setup.{Tables}
use Rattle.vcm_spec.specs.Rests.{Rests}
use Rattle.vcm_spec.specs.World.{World}
use Rattle.vcm_spec.specs.Stepping.{unless_stopped, effective_of}
use Rattle.vcm_spec.proofs.Steps.{add_steps, next_effective, add_effective, all_stay, effective_reaches}
use Rattle.vcm_code.specs.declared.code.Code.{Code}
use Rattle.vcm_code.specs.Code.{CodeStatement}
use Rattle.vcm_code.specs.CodeTable.{CodeState, code_stop, code_step, code_effective, fetched, start}
use Rattle.vcm_machine.specs.declared.ran.End.TheVariants as ends
use Rattle.vcm_machine.specs.Running.{Running, setup, started, later, HasRun}
use Rattle.vcm_machine.proofs.RunLemmas.{IsReached, goes, stops}
use Rattle.vcm_steps.specs.Passages.{Passage, passage, passage_at, passage_from, passages, setup_with, state_after, steps_taken, WasNext, IsBroken}
use Rattle.vcm_steps.specs.inner.Stepping.{next_passage}

-- ---- the end of a run

module _ (n : ℕ) (old new : Running) (done : ℕ) (at : IsReached n old new done) where
  -- all steps are taken
  counts : n ≤ done → new.state.world.stop ≡ None → HasRun n old new (record { done = done; end = ends.Count })
  counts l e =
      let all : done ≡ n = (let a = at.asked in omega arith) in
      record {
        new_is = at.reached;
        ended = (all, sym (ap (λ k. code_effective (setup old) old.code.statements k old.state) (sym all) ∙ at.counted ∙ all), e);
      }

-- ---- one step

module _ (done : ℕ) (old new : Running) (c : Code) (number : ℕ) (s : CodeStatement) (new_is : new ≡ later 1 old) (number_is : number ≡ old.state.next)
    (code_is : old.code ≡ c) (got : slice_get c.statements number ≡ Some s) where
  pub stands : slice_get old.code.statements old.state.next ≡ Some s
  stands = ap (λ k. slice_get k.statements old.state.next) code_is ∙ ap (slice_get c.statements) (sym number_is) ∙ got

  shown_is : passage (done + 1) number s old.state.world new.state.world new.state.next ∷ [] ≡ next_passage done old
  shown_is =
      ap (λ k. passage (done + 1) k s old.state.world new.state.world new.state.next ∷ []) number_is
      ∙ ap (λ k. passage k old.state.next s old.state.world new.state.world new.state.next ∷ []) (let e : done + 1 ≡ suc done = omega arith in e)
      ∙ ap (λ m. passage (suc done) old.state.next s old.state.world m.state.world m.state.next ∷ []) new_is
      ∙ sym (ap (passage_at (suc done) old.state (later 1 old).state) stands)

  -- what a machine showed before and behind a step is the step
  pub next_is : (before after : World) (next : ℕ) → before ≡ old.state.world → after ≡ new.state.world → next ≡ new.state.next
      → passage (done + 1) number s before after next ∷ [] ≡ next_passage done old
  next_is before after next b a n =
      ap (λ w. passage (done + 1) number s w after next ∷ []) b ∙ ap (λ w. passage (done + 1) number s old.state.world w next ∷ []) a
      ∙ ap (λ k. passage (done + 1) number s old.state.world new.state.world k ∷ []) n ∙ shown_is

  pub tables_are : new.code.tables ≡ c.tables
  tables_are = ap (λ m. m.code.tables) new_is ∙ ap (λ k. k.tables) code_is

  -- the statement came next
  pub was_next : (fits : Workpiece → Code → Type 0) (known : World → Type 0) (before after : World) → fits old.part old.code → old.state.world.stop ≡ None
      → Rests old.part old.state.world → before ≡ old.state.world → after ≡ new.state.world → known before → WasNext fits known s after
  was_next fits known before after fit none rests b a h = record {
    before = before;
    tables = old.code.tables;
    is_next = record { machine = old; fit = fit; stands = stands; running = none; rests = rests; world_is = sym b; tables_are = refl };
    known_before = h;
    after_is = ap (λ m. m.state.world) (sym new_is) ∙ sym a;
  }

-- what follows by one's tables follows by those that are the same
pub carried : (A : Tables → Type 0) (B : Tables → List Passage → Type 0) (t u : Tables) (ps qs rs : List Passage) → t ≡ u → qs ≡ rs
    → (A t → B t (ps ++ qs)) → A u → B u (ps ++ rs)
carried A B t u ps qs rs e f h a = subst (λ q. B u (ps ++ q)) f (subst (λ t. B t (ps ++ qs)) e (h (subst A (sym e) a)))

pub carried_off : (A B : Tables → Type 0) (t u : Tables) → t ≡ u → (A t → B t) → A u → B u
carried_off A B t u e h a = subst B e (h (subst A (sym e) a))

-- ---- all steps

module _ (part : Workpiece) (c : Code) where
  abbrev first : Running
  first = started part c

  abbrev go : CodeState → CodeState
  go = code_step (setup_with part c) c.statements

  stays : (s : CodeState) (p : StopPlace) → code_stop s ≡ Some p → go s ≡ s
  stays s p e = ap (λ o. unless_stopped o s (fetched (setup_with part c) (slice_get c.statements s.next) s.world s.next s.pairs)) e

  next_taken : (m : Running) (k : ℕ) → m ≡ later k first → m.state.world.stop ≡ None → next_passage k m ≡ passage_from part c (suc k) (state_after part c k)
  next_taken m k e none =
      let s = state_after part c k in
      ap (next_passage k) e
      ∙ sym (ap (λ o. unless_stopped o [] (passage_at (suc k) s (go s) (slice_get c.statements s.next))) (sym (ap (λ m. m.state.world.stop) e) ∙ none))

  -- one more step
  one_more : (m : Running) (k : ℕ) → m ≡ later k first → m.state.world.stop ≡ None → passages part c k ++ next_passage k m ≡ passages part c (suc k)
  one_more m k e none = ap (λ l. passages part c k ++ l) (next_taken m k e none)

  -- the steps behind some
  pub rest_of : (k j : ℕ) → (rest : List Passage) × (passages part c k ++ rest ≡ passages part c (k + j))
  rest_of k zero = ([], append-nil (passages part c k) ∙ ap (passages part c) (let e : k ≡ k + zero = omega arith in e))
  rest_of k (suc j) =
      let r = rest_of k j in
      let l = passage_from part c (suc (k + j)) (state_after part c (k + j)) in
      (r.0 ++ l, sym (append_assoc (passages part c k) r.0 l) ∙ ap (λ x. x ++ l) r.1 ∙ ap (passages part c) (let e : suc (k + j) ≡ k + suc j = omega arith in e))

  -- a stop is the same so many steps later
  stop_later : (k j : ℕ) (p : StopPlace) → (state_after part c k).world.stop ≡ Some p → (state_after part c (k + j)).world.stop ≡ Some p
  stop_later k j p e =
      ap code_stop (add_steps go k j (start (setup_with part c)) ∙ all_stay code_stop go stays j (state_after part c k) p e) ∙ e

  -- behind a stop there are no more
  pub none_behind : (k j : ℕ) (p : StopPlace) → (state_after part c k).world.stop ≡ Some p → passages part c (k + j) ≡ passages part c k
  none_behind k zero p e = ap (passages part c) (let q : k + zero ≡ k = omega arith in q)
  none_behind k (suc j) p e =
      let s = state_after part c (k + j) in
      ap (passages part c) (let q : k + suc j ≡ suc (k + j) = omega arith in q)
      ∙ ap (λ o. passages part c (k + j) ++ unless_stopped o [] (passage_at (suc (k + j)) s (go s) (slice_get c.statements s.next))) (stop_later k j p e)
      ∙ append-nil (passages part c (k + j))
      ∙ none_behind k j p e

  -- no more are taken than are asked for
  most_of : (n : ℕ) (s : CodeState) → effective_of code_stop go n s ≤ n
  most_of zero s = omega arith
  most_of (suc n) s = by (code_stop s) (most_of n (go s))
    where
      by : (o : Option StopPlace) → effective_of code_stop go n (go s) ≤ n → unless_stopped o 0 (suc (effective_of code_stop go n (go s))) ≤ suc n
      by (Some p) l = omega arith
      by None l = omega (arith, l)

  pub taken_most : (n : ℕ) → steps_taken part c n ≤ n
  taken_most n = most_of n (start (setup_with part c))

  -- a run that has stopped has no more steps, and goes no further
  pub state_stopped : (n k : ℕ) → k ≡ steps_taken part c n → state_after part c n ≡ state_after part c k
  state_stopped n k e = effective_reaches code_stop go stays n (start (setup_with part c)) ∙ ap (state_after part c) (sym e)

  pub passages_stopped : (n k : ℕ) (p : StopPlace) → k ≡ steps_taken part c n → (state_after part c k).world.stop ≡ Some p → passages part c n ≡ passages part c k
  passages_stopped n k p e f =
      let all : n ≡ k + (n - k) = (let l = taken_most n in omega (arith, l, e)) in
      ap (passages part c) all ∙ none_behind k (n - k) p f

  -- so many steps are taken, and followed
  pub record IsFollowed (n : ℕ) (m : Running) (done : ℕ) (has : List Passage → Type 0) : Type 0 where
    pub reached : IsReached n first m done
    pub followed : has (passages part c done)

  module _ (n : ℕ) (m : Running) (k : ℕ) (has : List Passage → Type 0) (w : IsFollowed n m k has) where
    pub still_fits : (fits : Workpiece → Code → Type 0) → fits part c → fits m.part m.code
    still_fits fits h = subst (λ r. fits r.part r.code) (sym w.reached.reached) h

    pub goes_on : (new : Running) (more : List Passage → Type 0) → k < n → m.state.world.stop ≡ None → new ≡ later 1 m
        → ((ps : List Passage) → has ps → more (ps ++ next_passage k m)) → IsFollowed n new (k + 1) more
    goes_on new more l none e h = record {
      reached = goes n first m k w.reached new l none e;
      followed = subst (λ i. more (passages part c i)) (let q : suc k ≡ k + 1 = omega arith in q)
          (subst more (one_more m k w.reached.reached none) (h (passages part c k) w.followed));
    }

    taken_more : k < n → m.state.world.stop ≡ None → suc k ≤ steps_taken part c n
    taken_more l none =
        let here = sym (ap (λ m. m.state.world.stop) w.reached.reached) ∙ none in
        let counted = next_effective code_stop go k (start (setup_with part c)) w.reached.counted here in
        let rest = add_effective code_stop go (k + 1) (n - (k + 1)) (start (setup_with part c)) counted in
        let all : (k + 1) + (n - (k + 1)) ≡ n = omega (arith, l) in
        let e = ap (λ i. steps_taken part c i) (sym all) ∙ rest in
        omega (arith, e)

    pub breaks : (p : Passage) (broke : List Passage → Passage → Type 0) → k < n → m.state.world.stop ≡ None → p.count ≡ k + 1 → next_passage k m ≡ p ∷ []
        → ((ps : List Passage) → has ps → broke ps p) → IsBroken n part c broke
    breaks p broke l none count e h = record {
      done = k;
      last = p;
      count_is = count ∙ (let q : k + 1 ≡ suc k = omega arith in q);
      taken = taken_more l none;
      passages_are = sym (one_more m k w.reached.reached none) ∙ ap (λ l. passages part c k ++ l) e;
      broken = h (passages part c k) w.followed;
    }

    module _ (old : Running) (is : old ≡ first) where
      pub stopped : (p : StopPlace) → m.state.world.stop ≡ Some p → HasRun n old m (record { done = k; end = ends.Stopped })
      stopped p e = subst (λ o. HasRun n o m (record { done = k; end = ends.Stopped })) (sym is) (stops n first m k w.reached p e)

      pub counted : n ≤ k → m.state.world.stop ≡ None → HasRun n old m (record { done = k; end = ends.Count })
      counted l e = subst (λ o. HasRun n o m (record { done = k; end = ends.Count })) (sym is) (counts n first m k w.reached l e)
