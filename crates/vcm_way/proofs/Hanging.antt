-- The pieces of a way hang together.
use Rattle.std.specs.Prelude.{◌⊎◌, map, flat_map}
use Rattle.std.proofs.Common.{◌≡◌, ℕ, zero, suc, ◌+◌, List, [], ◌∷◌, ◌++◌, Option, Some, None, slice_get, refl, sym, ap, ◌∙◌, subst, inl, inr, arith}
use Rattle.std.proofs.lemmas.List.{append-nil, flat_map_more}
use Rattle.vcm_num.specs.declared.point.Point.{Point}
use Rattle.vcm_num.specs.Point.{coordinate}
use Rattle.vcm_spec.specs.declared.stop.Stop.{Stop}
use Rattle.vcm_spec.specs.declared.stop.Stop.TheVariants.{Ended, Overflow, DivZero, ZeroStep, Undefined, BadSetting, OutputFull, Travel, Collision, Missed}
use Rattle.vcm_spec.specs.declared.stop.StopPlace.{StopPlace}
use Rattle.vcm_spec.specs.declared.words.MovePhase.TheVariants.{Move, Approach, Search, Retract}
use Rattle.vcm_spec.specs.Rests.{Rests}
use Rattle.vcm_spec.specs.Stepping.{unless_stopped}
use Rattle.vcm_spec.specs.Workpiece.{Workpiece, IsValid}
use Rattle.vcm_spec.specs.World.{World}
use Rattle.vcm_spec.proofs.Steps.{add_steps}
use Rattle.vcm_code.specs.Code.{CodeStatement}
use Rattle.vcm_code.specs.declared.code.Code.{Code}
use Rattle.vcm_code.specs.CodeTable.{CodeState, code_step, fetched, start}
use Rattle.vcm_machine.proofs.RestsAlong.{rests_always}
use Rattle.vcm_marks.specs.declared.mark.Mark.{Mark}
use Rattle.vcm_marks.specs.declared.mark.Mark.TheVariants.{Goes, Touches, Meets}
use Rattle.vcm_marks.specs.declared.mark.PlacedMark.{PlacedMark}
use Rattle.vcm_steps.specs.Passages.{Passage, passage, passage_at, passages, setup_with, state_after}
use Rattle.vcm_way.specs.Marks.{marks_of_move, marks_of_touch, Touching}
use Rattle.vcm_way.specs.Laws.{WaysHangTogether}
use Rattle.vcm_way.specs.Meaning.{Hang, IsNoMotion}
use Rattle.vcm_way.specs.Ways.{reason, placed, step_marks, placed_marks, whole_way}
use Rattle.vcm_way.proofs.Went.{Went, stays, moves, halts, touches, misses, points_of, op_goes}
use Rattle.vcm_way.proofs.Depth.{retracts_to}

-- ---- the marks of one step

-- these marks hang together from a point; where the stop is none of a motion, they end where they begin
pub record Hung (a : Point) (ms : List Mark) (stop : Option Stop) : Type 0 where
  pub end : Point
  pub hang : Hang a ms end
  pub ends : IsNoMotion stop → end ≡ a

moves_hang : (part : Workpiece) (p q : Point) (why : Stop) → Hung p (marks_of_move part p q (Some why)) (Some why)
moves_hang part p q (Collision Move hit) = record { end = q; hang = (refl, (refl, refl)); ends = λ no. absurd no }
moves_hang part p q (Collision Approach hit) = record { end = p; hang = refl; ends = λ no. refl }
moves_hang part p q (Collision Search hit) = record { end = p; hang = refl; ends = λ no. refl }
moves_hang part p q (Collision Retract hit) = record { end = p; hang = refl; ends = λ no. refl }
moves_hang part p q (Travel Move) = record { end = _; hang = (refl, refl); ends = λ no. absurd no }
moves_hang part p q (Travel Approach) = record { end = p; hang = refl; ends = λ no. refl }
moves_hang part p q (Travel Search) = record { end = p; hang = refl; ends = λ no. refl }
moves_hang part p q (Travel Retract) = record { end = p; hang = refl; ends = λ no. refl }
moves_hang part p q Ended = record { end = p; hang = refl; ends = λ no. refl }
moves_hang part p q Missed = record { end = p; hang = refl; ends = λ no. refl }
moves_hang part p q Overflow = record { end = p; hang = refl; ends = λ no. refl }
moves_hang part p q DivZero = record { end = p; hang = refl; ends = λ no. refl }
moves_hang part p q ZeroStep = record { end = p; hang = refl; ends = λ no. refl }
moves_hang part p q (Undefined what) = record { end = p; hang = refl; ends = λ no. refl }
moves_hang part p q BadSetting = record { end = p; hang = refl; ends = λ no. refl }
moves_hang part p q OutputFull = record { end = p; hang = refl; ends = λ no. refl }

touches_hang : (part : Workpiece) (p : Point) (t : Touching) (why : Stop) → Hung p (marks_of_touch part p t (Some why)) (Some why)
touches_hang part p t (Collision Move hit) = record { end = p; hang = refl; ends = λ no. refl }
touches_hang part p t (Collision Approach hit) = record { end = t.approach; hang = (refl, (refl, refl)); ends = λ no. absurd no }
touches_hang part p t (Collision Search hit) = record { end = p; hang = refl; ends = λ no. refl }
touches_hang part p t (Collision Retract hit) = record { end = t.retract; hang = (refl, (refl, (refl, (refl, refl)))); ends = λ no. absurd no }
touches_hang part p t (Travel Move) = record { end = p; hang = refl; ends = λ no. refl }
touches_hang part p t (Travel Approach) = record { end = _; hang = (refl, refl); ends = λ no. absurd no }
touches_hang part p t (Travel Search) = record { end = _; hang = (refl, (refl, refl)); ends = λ no. absurd no }
touches_hang part p t (Travel Retract) = record { end = _; hang = (refl, (refl, (refl, refl))); ends = λ no. absurd no }
touches_hang part p t Missed = record { end = t.end; hang = (refl, (refl, refl)); ends = λ no. absurd no }
touches_hang part p t Ended = record { end = p; hang = refl; ends = λ no. refl }
touches_hang part p t Overflow = record { end = p; hang = refl; ends = λ no. refl }
touches_hang part p t DivZero = record { end = p; hang = refl; ends = λ no. refl }
touches_hang part p t ZeroStep = record { end = p; hang = refl; ends = λ no. refl }
touches_hang part p t (Undefined what) = record { end = p; hang = refl; ends = λ no. refl }
touches_hang part p t BadSetting = record { end = p; hang = refl; ends = λ no. refl }
touches_hang part p t OutputFull = record { end = p; hang = refl; ends = λ no. refl }

-- these marks hang together from a point, to where the probe is in a state that is not stopped in a motion
pub record Leads (a : Point) (ms : List Mark) (after : World) : Type 0 where
  pub end : Point
  pub hang : Hang a ms end
  pub ends : IsNoMotion (reason after.stop) → end ≡ after.position

stopped_leads : (a : Point) (ms : List Mark) (after : World) (why : Stop) → Hung a ms (Some why) → after.position ≡ a → reason after.stop ≡ Some why → Leads a ms after
stopped_leads a ms after why h at e = record { end = h.end; hang = h.hang; ends = λ no. h.ends (subst IsNoMotion e no) ∙ sym at }

module _ (part : Workpiece) (valid : IsValid part) (w : World) (rests : Rests part w) where
  went_leads : (ms : List Mark) (after : World) → Went part w ms after → Leads w.position ms after
  went_leads ms after (stays at) = record { end = w.position; hang = refl; ends = λ no. sym at }
  went_leads ms after (moves q u e at) = record { end = q; hang = (refl, refl); ends = λ no. sym at }
  went_leads ms after (halts q why e at stop) = stopped_leads w.position _ after why (moves_hang part w.position q why) at stop
  went_leads ms after (touches m t e at) = record {
    end = (points_of part w m).retract;
    hang = (refl, (refl, (refl, refl)));
    ends = λ no. sym (at ∙ retracts_to part valid w.settings (coordinate w.position) (coordinate m.nominal) m.toward rests.back m.feature t e);
  }
  went_leads ms after (misses m why e at stop) = stopped_leads w.position _ after why (touches_hang part w.position (points_of part w m) why) at stop

-- ---- the marks of all steps

hang_more : (a b c : Point) (ms ns : List Mark) → Hang a ms b → Hang b ns c → Hang a (ms ++ ns) c
hang_more a b c [] ns h k = subst (λ x. Hang x ns c) (sym h) k
hang_more a b c (Goes piece ∷ ms) ns h k = (h.0, hang_more piece.to b c ms ns h.1 k)
hang_more a b c (Touches t ∷ ms) ns h k = hang_more a b c ms ns h k
hang_more a b c (Meets t ∷ ms) ns h k = hang_more a b c ms ns h k

abbrev marks_in : List PlacedMark → List Mark
marks_in ps = map (λ p. p.mark) ps

marks_more : (xs ys : List PlacedMark) → marks_in (xs ++ ys) ≡ marks_in xs ++ marks_in ys
marks_more [] ys = refl
marks_more (x ∷ xs) ys = ap (λ ms. x.mark ∷ ms) (marks_more xs ys)

marks_placed : (step number line : ℕ) (ms : List Mark) → marks_in (placed step number line ms) ≡ ms
marks_placed step number line [] = refl
marks_placed step number line (m ∷ ms) = ap (λ ns. m ∷ ns) (marks_placed step number line ms)

module _ (part : Workpiece) (valid : IsValid part) (c : Code) where
  abbrev after : ℕ → World
  after n = (state_after part c n).world

  -- one more step
  pub next_state : (k : ℕ) → state_after part c (suc k) ≡ code_step (setup_with part c) c.statements (state_after part c k)
  next_state k =
      ap (state_after part c) (let e : suc k ≡ k + 1 = omega arith in e)
      ∙ add_steps (code_step (setup_with part c) c.statements) k 1 (start (setup_with part c))

  -- what a step that is taken does
  pub step_went : (k : ℕ) (s : CodeStatement) → (after k).stop ≡ None → slice_get c.statements (state_after part c k).next ≡ Some s → (n : ℕ)
      → Went part (after k) (step_marks part (passage (suc k) (state_after part c k).next s (after k) (after (suc k)) n)) (after (suc k))
  step_went k s running got n =
      let m = state_after part c k in
      let step : code_step (setup_with part c) c.statements m ≡ fetched (setup_with part c) (Some s) m.world m.next m.pairs =
      ap (λ o. unless_stopped o m (fetched (setup_with part c) (slice_get c.statements m.next) m.world m.next m.pairs)) running
      ∙ ap (λ o. fetched (setup_with part c) o m.world m.next m.pairs) got in
      subst (λ (w : World). Went part m.world (step_marks part (passage (suc k) m.next s m.world w n)) w)
      (sym (ap (λ (x : CodeState). x.world) (next_state k ∙ step))) (op_goes (setup_with part c) m.world running s.line m.next m.pairs s.op)

  -- a step that is taken: what it adds to the run, and what it does
  pub record IsTaken (k : ℕ) (p : Passage) : Type 0 where
    pub running : (after k).stop ≡ None
    pub passages_are : passages part c (suc k) ≡ passages part c k ++ p ∷ []
    pub went : Went part (after k) (step_marks part p) (after (suc k))

  -- there is no further step, or one is taken
  abbrev pub IsNext : ℕ → Type 0
  IsNext k = ((passages part c (suc k) ≡ passages part c k) × (state_after part c (suc k) ≡ state_after part c k)) ⊎ ((p : Passage) × IsTaken k p)

  pub next_step : (k : ℕ) → IsNext k
  next_step k = by (after k).stop refl (slice_get c.statements m.next) refl
    where
      m : CodeState
      m = state_after part c k

      step : CodeState
      step = code_step (setup_with part c) c.statements m

      none_more : (o : Option StopPlace) → (after k).stop ≡ o → passages part c (suc k) ≡ passages part c k ++ unless_stopped o [] (passage_at (suc k) m step (slice_get c.statements m.next))
      none_more o e = ap (λ x. passages part c k ++ unless_stopped x [] (passage_at (suc k) m step (slice_get c.statements m.next))) e

      state_is : (o : Option StopPlace) → (after k).stop ≡ o → state_after part c (suc k) ≡ unless_stopped o m (fetched (setup_with part c) (slice_get c.statements m.next) m.world m.next m.pairs)
      state_is o e = next_state k ∙ ap (λ x. unless_stopped x m (fetched (setup_with part c) (slice_get c.statements m.next) m.world m.next m.pairs)) e

      by : (o : Option StopPlace) → (after k).stop ≡ o → (s : Option CodeStatement) → slice_get c.statements m.next ≡ s → IsNext k
      by (Some p) e s got = inl (none_more (Some p) e ∙ append-nil (passages part c k), state_is (Some p) e)
      by None e None got =
          inl (
            none_more None e ∙ ap (λ x. passages part c k ++ passage_at (suc k) m step x) got ∙ append-nil (passages part c k),
            state_is None e ∙ ap (λ x. fetched (setup_with part c) x m.world m.next m.pairs) got,
          )
      by None e (Some s) got =
          inr (
            passage (suc k) m.next s m.world (after (suc k)) step.next,
            record {
              running = e;
              passages_are = none_more None e ∙ ap (λ x. passages part c k ++ passage_at (suc k) m step x) got
                  ∙ ap (λ (w : World). passages part c k ++ passage (suc k) m.next s m.world w step.next ∷ []) (sym (ap (λ (x : CodeState). x.world) (next_state k)));
              went = step_went k s e got step.next;
            },
          )

  -- the way of so many steps leads to where the probe is
  abbrev Reached : ℕ → Type 0
  Reached n = Leads part.bounds.home (marks_in (whole_way part c n)) (after n)

  next_reached : (k : ℕ) → Reached k → IsNext k → Reached (suc k)
  next_reached k h (inl none) = record {
    end = h.end;
    hang = subst (λ ps. Hang part.bounds.home (marks_in (flat_map (placed_marks part) ps)) h.end) (sym none.0) h.hang;
    ends = λ no. h.ends (subst (λ (x : CodeState). IsNoMotion (reason x.world.stop)) none.1 no) ∙ sym (ap (λ (x : CodeState). x.world.position) none.1);
  }
  next_reached k h (inr (p, is)) =
      let here : h.end ≡ (after k).position = h.ends (subst (λ x. IsNoMotion (reason x)) (sym is.running) tt) in
      let more = went_leads part valid (after k) (rests_always (setup_with part c) valid c.statements k) (step_marks part p) (after (suc k)) is.went in
      let way : marks_in (whole_way part c (suc k)) ≡ marks_in (whole_way part c k) ++ step_marks part p =
      ap (λ ps. marks_in (flat_map (placed_marks part) ps)) is.passages_are
      ∙ ap marks_in (sym (flat_map_more (placed_marks part) [] (passages part c k) p))
      ∙ marks_more (whole_way part c k) (placed_marks part p)
      ∙ ap (λ ms. marks_in (whole_way part c k) ++ ms) (marks_placed p.count p.number p.statement.line (step_marks part p)) in
      record {
        end = more.end;
        hang = subst (λ ms. Hang part.bounds.home ms more.end) (sym way)
            (hang_more part.bounds.home h.end more.end (marks_in (whole_way part c k)) (step_marks part p) h.hang (subst (λ x. Hang x (step_marks part p) more.end) (sym here) more.hang));
        ends = more.ends;
      }

  reached : (n : ℕ) → Reached n
  reached zero = record { end = part.bounds.home; hang = refl; ends = λ no. refl }
  reached (suc k) = next_reached k (reached k) (next_step k)

pub hang_together : WaysHangTogether
hang_together part valid c n = let r = reached part valid c n in (r.end, r.hang, r.ends)
