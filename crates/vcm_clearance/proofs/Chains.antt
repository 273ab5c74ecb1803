-- Each way of a run begins where the one before it ends, which was gone whole.
use Rattle.std.specs.Prelude.{map, flat_map}
use Rattle.std.proofs.Common.{◌≡◌, ℕ, zero, suc, List, [], ◌∷◌, ◌++◌, Option, Some, None, refl, sym, ap, ◌∙◌, subst, inl, inr}
use Rattle.std.proofs.lemmas.List.{flat_map_more}
use Rattle.vcm_num.specs.declared.point.Point.{Point}
use Rattle.vcm_num.specs.Point.{coordinate}
use Rattle.vcm_spec.specs.declared.stop.Stop.{Stop}
use Rattle.vcm_spec.specs.declared.stop.Stop.TheVariants.{Travel, Collision, Missed}
use Rattle.vcm_spec.specs.declared.stop.StopPlace.{StopPlace}
use Rattle.vcm_spec.specs.declared.words.MovePhase.TheVariants.{Move, Approach, Search, Retract}
use Rattle.vcm_spec.specs.FirstContact.{fraction}
use Rattle.vcm_spec.specs.Rests.{Rests}
use Rattle.vcm_spec.specs.Workpiece.{Workpiece, IsValid}
use Rattle.vcm_spec.specs.World.{World}
use Rattle.vcm_code.specs.declared.code.Code.{Code}
use Rattle.vcm_code.specs.CodeTable.{CodeState}
use Rattle.vcm_machine.proofs.RestsAlong.{rests_always}
use Rattle.vcm_marks.specs.declared.mark.Mark.{Mark}
use Rattle.vcm_marks.specs.declared.mark.Moment.{Moment}
use Rattle.vcm_steps.specs.Passages.{passages, setup_with, state_after}
use Rattle.vcm_way.specs.Gone.{Gone, PlacedWay, ways_in, placed_at, placed_ways, ways_of}
use Rattle.vcm_way.specs.Marks.{Touching, marks_of_move, marks_of_touch}
use Rattle.vcm_way.specs.Ways.{reason, step_marks}
use Rattle.vcm_way.proofs.Depth.{retracts_to}
use Rattle.vcm_way.proofs.Hanging.{IsNext, next_step}
use Rattle.vcm_way.proofs.Went.{Went, stays, moves, halts, touches, misses, points_of}

-- these ways, all gone whole, lead from the point a to the point b
abbrev pub Chain : Point → List Gone → Point → Type 0
Chain a [] b = a ≡ b
Chain a (w ∷ ws) b = (w.from ≡ a) × (w.gone ≡ fraction 1 1) × Chain w.to ws b

-- these ways, but the last all gone whole, begin at the point a
abbrev pub LastChain : Point → List Gone → Type 0
LastChain a [] = Unit {0}
LastChain a (w ∷ []) = w.from ≡ a
LastChain a (w ∷ v ∷ vs) = (w.from ≡ a) × (w.gone ≡ fraction 1 1) × LastChain w.to (v ∷ vs)

joined : (a b c : Point) (us vs : List Gone) → Chain a us b → Chain b vs c → Chain a (us ++ vs) c
joined a b c [] vs h k = subst (λ x. Chain x vs c) (sym h) k
joined a b c (u ∷ us) vs h k = (h.0, h.1, joined u.to b c us vs h.2 k)

ended : (a b : Point) (us vs : List Gone) → Chain a us b → LastChain b vs → LastChain a (us ++ vs)
ended a b [] vs h k = subst (λ x. LastChain x vs) (sym h) k
ended a b (u ∷ []) [] h k = h.0
ended a b (u ∷ []) (v ∷ vs) h k = (h.0, h.1, subst (λ x. LastChain x (v ∷ vs)) (sym h.2) k)
ended a b (u ∷ w ∷ us) vs h k = (h.0, h.1, ended u.to b (w ∷ us) vs h.2 k)

-- ---- one step

module _ (part : Workpiece) (p : Point) where
  last_move : (q : Point) (why : Stop) → LastChain p (ways_in part (marks_of_move part p q (Some why)))
  last_move q (Collision Move hit) = refl
  last_move q (Travel Move) = tt
  last_move q _ = tt

  last_touch : (t : Touching) (why : Stop) → LastChain p (ways_in part (marks_of_touch part p t (Some why)))
  last_touch t (Travel Approach) = tt
  last_touch t (Collision Approach hit) = refl
  last_touch t (Travel Search) = refl
  last_touch t Missed = (refl, refl, refl)
  last_touch t (Travel Retract) = (refl, refl, refl)
  last_touch t (Collision Retract hit) = (refl, refl, (refl, refl, refl))
  last_touch t _ = tt

no_stop : (o : Option StopPlace) (why : Stop) → o ≡ None → reason o ≡ Some why → ⊥
no_stop o why e h = absurd (let no : None ≡ Some why = sym (ap reason e) ∙ h in cc)

module _ (part : Workpiece) (valid : IsValid part) (w : World) (rests : Rests part w) where
  went_last : (ms : List Mark) (after : World) → Went part w ms after → LastChain w.position (ways_in part ms)
  went_last ms after (stays at) = tt
  went_last ms after (moves q u e at) = refl
  went_last ms after (halts q why e at stop) = last_move part w.position q why
  went_last ms after (touches m t e at) = (refl, refl, (refl, refl, refl))
  went_last ms after (misses m why e at stop) = last_touch part w.position (points_of part w m) why

  went_whole : (ms : List Mark) (after : World) → Went part w ms after → after.stop ≡ None → Chain w.position (ways_in part ms) after.position
  went_whole ms after (stays at) none = sym at
  went_whole ms after (moves q u e at) none = (refl, refl, sym at)
  went_whole ms after (halts q why e at stop) none = absurd (no_stop after.stop why none stop)
  went_whole ms after (touches m t e at) none =
      (refl, refl, (refl, refl, (refl, refl, sym (at ∙ retracts_to part valid w.settings (coordinate w.position) (coordinate m.nominal) m.toward rests.back m.feature t e))))
  went_whole ms after (misses m why e at stop) none = absurd (no_stop after.stop why none stop)

-- ---- all steps

abbrev pub gones : List PlacedWay → List Gone
gones ps = map (λ p. p.way) ps

gones_more : (xs ys : List PlacedWay) → gones (xs ++ ys) ≡ gones xs ++ gones ys
gones_more [] ys = refl
gones_more (x ∷ xs) ys = ap (λ l. x.way ∷ l) (gones_more xs ys)

gones_placed : (place : Moment) (gs : List Gone) → gones (placed_at place gs) ≡ gs
gones_placed place [] = refl
gones_placed place (g ∷ gs) = ap (λ l. g ∷ l) (gones_placed place gs)

module _ (part : Workpiece) (valid : IsValid part) (c : Code) where
  abbrev after : ℕ → World
  after n = (state_after part c n).world

  record IsAlong (k : ℕ) : Type 0 where
    last : LastChain part.bounds.home (gones (ways_of part c k))
    whole : (after k).stop ≡ None → Chain part.bounds.home (gones (ways_of part c k)) (after k).position

  next_along : (k : ℕ) → IsAlong k → IsNext part valid c k → IsAlong (suc k)
  next_along k h (inl none) =
      let ways = ap (λ ps. gones (flat_map (placed_ways part) ps)) (sym none.0) in
      record {
        last = subst (LastChain part.bounds.home) ways h.last;
        whole = λ e. subst (λ (x : CodeState). Chain part.bounds.home (gones (ways_of part c (suc k))) x.world.position) (sym none.1)
            (subst (λ l. Chain part.bounds.home l (after k).position) ways (h.whole (sym (ap (λ (x : CodeState). x.world.stop) none.1) ∙ e)));
      }
  next_along k h (inr (p, is)) =
      let home = part.bounds.home in
      let from = (after k).position in
      let gs = ways_in part (step_marks part p) in
      let rests = rests_always (setup_with part c) valid c.statements k in
      let ways : gones (ways_of part c (suc k)) ≡ gones (ways_of part c k) ++ gs =
      ap (λ ps. gones (flat_map (placed_ways part) ps)) is.passages_are
      ∙ ap gones (sym (flat_map_more (placed_ways part) [] (passages part c k) p))
      ∙ gones_more (ways_of part c k) (placed_ways part p)
      ∙ ap (λ l. gones (ways_of part c k) ++ l) (gones_placed (record { step = p.count; number = p.number; line = p.statement.line }) gs) in
      record {
        last = subst (LastChain home) (sym ways)
            (ended home from (gones (ways_of part c k)) gs (h.whole is.running) (went_last part valid (after k) rests (step_marks part p) (after (suc k)) is.went));
        whole = λ none. subst (λ l. Chain home l (after (suc k)).position) (sym ways)
            (joined home from (after (suc k)).position (gones (ways_of part c k)) gs (h.whole is.running)
            (went_whole part valid (after k) rests (step_marks part p) (after (suc k)) is.went none));
      }

  along : (n : ℕ) → IsAlong n
  along zero = record { last = tt; whole = λ none. refl }
  along (suc k) = next_along k (along k) (next_step part valid c k)

  pub ways_chain : (n : ℕ) → LastChain part.bounds.home (gones (ways_of part c n))
  ways_chain n = (along n).last
