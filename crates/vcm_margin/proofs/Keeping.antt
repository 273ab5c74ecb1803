-- A run that is kept: one step more at its end, and one that is taken at its front.
use Rattle.std.proofs.Common.{◌≡◌, ℕ, zero, suc, ◌+◌, ◌-◌, ◌<◌, ◌≤◌, ◌⊎◌, inl, inr, refl, sym, ap, ◌∙◌, subst, arith}
use Rattle.std.specs.Prelude.{Option, Some, None, List, [], ◌∷◌, ◌++◌}
use Rattle.std.proofs.lemmas.List.{append-nil, append_assoc}
use Rattle.vcm_spec.specs.declared.feature.Feature.{Feature}
use Rattle.vcm_spec.specs.declared.stop.StopPlace.{StopPlace}
use Rattle.vcm_spec.specs.Workpiece.{Workpiece}
use Rattle.vcm_code.specs.declared.code.Code.{Code}
use Rattle.vcm_code.specs.CodeTable.{CodeState}
use Rattle.vcm_machine.specs.Running.{Running, started, later}
use Rattle.vcm_margin.specs.declared.own.Behind.{Behind}
use Rattle.vcm_margin.specs.Alike.{reached, measures, actual_in}
use Rattle.vcm_margin.specs.inner.Kept.{Shows, IsStop, pointed, running_behind, stop_behind, point_of, nexts_from, points_from, AreStops, IsKept}
use Rattle.vcm_margin.specs.inner.Keeping.{IsKeeping}
use Rattle.vcm_margin.specs.inner.Trails.{IsTrail}
use Rattle.vcm_margin.specs.declared.own.Trail.{Trail}
use Rattle.vcm_margin.proofs.Reached.{before_or_last, later_more, stop_stays}

-- the point of a step in a state, if it measured a feature
abbrev point_at : Option ℕ → CodeState → Option Feature
point_at None m = None
point_at (Some i) m = actual_in m i

point_is : (which : Option ℕ) (m : CodeState) → point_of which m ≡ pointed which (point_at which m)
point_is None m = refl
point_is (Some i) m = refl

-- what is shown of a step has its point
shown_point : (which : Option ℕ) (b : Behind) (m : CodeState) → ((i : ℕ) → which ≡ Some i → b.point ≡ actual_in m i) → pointed which b.point ≡ point_of which m
shown_point None b m h = refl
shown_point (Some i) b m h = ap (λ p. p ∷ []) (h i refl)

module _ (part : Workpiece) (c : Code) where
  nexts_more : (k n : ℕ) → nexts_from part c k (suc n) ≡ nexts_from part c k n ++ (reached part c (suc (k + n))).next ∷ []
  nexts_more k zero = ap (λ j. (reached part c (suc j)).next ∷ []) (let e : k ≡ k + 0 = omega arith in e)
  nexts_more k (suc n) =
      ap (λ ns. (reached part c (suc k)).next ∷ ns) (nexts_more (suc k) n
      ∙ ap (λ j. nexts_from part c (suc k) n ++ (reached part c (suc j)).next ∷ []) (let e : suc k + n ≡ k + suc n = omega arith in e))

  abbrev points_at : ℕ → List (Option Feature)
  points_at k = point_of (measures c (reached part c k)) (reached part c (suc k))

  points_more : (k n : ℕ) → points_from part c k (suc n) ≡ points_from part c k n ++ points_at (k + n)
  points_more k zero = append-nil (points_at k) ∙ ap points_at (let e : k ≡ k + 0 = omega arith in e)
  points_more k (suc n) =
      ap (λ ps. points_at k ++ ps) (points_more (suc k) n ∙ ap (λ j. points_from part c (suc k) n ++ points_at j) (let e : suc k + n ≡ k + suc n = omega arith in e))
      ∙ sym (append_assoc (points_at k) (points_from part c (suc k) n) (points_at (k + suc n)))

  -- the stops with one step more
  stops_more : (n running : ℕ) (stop new : Option StopPlace) → AreStops part c 0 n running stop → running ≤ n → (stop ≡ None → running ≡ n)
      → ((p : StopPlace) → stop ≡ Some p → (reached part c n).world.stop ≡ Some p) → new ≡ (reached part c (suc n)).world.stop
      → AreStops part c 0 (suc n) (running_behind running stop new) (stop_behind stop new)
  stops_more n running None None h within whole last e j l = by (before_or_last j n l)
    where
      same : running ≡ n
      same = whole refl

      by : (j < n) ⊎ (j ≡ n) → IsStop (reached part c (suc (0 + j))).world.stop None j (suc running)
      by (inl before) = record { going = λ g. (h j before).going (omega (arith, before, same)); ended = λ g. absurd (omega (arith, g, before, same)) }
      by (inr is) = record { going = λ g. ap (λ i. (reached part c (suc i)).world.stop) (let z : 0 + j ≡ n = omega (arith, is) in z) ∙ sym e; ended = λ g. absurd (omega (arith, g, is, same)) }
  stops_more n running None (Some p) h within whole last e j l = by (before_or_last j n l)
    where
      same : running ≡ n
      same = whole refl

      by : (j < n) ⊎ (j ≡ n) → IsStop (reached part c (suc (0 + j))).world.stop (Some p) j running
      by (inl before) = record { going = (h j before).going; ended = λ g. absurd (omega (arith, g, before, same)) }
      by (inr is) = record { going = λ g. absurd (omega (arith, g, is, same)); ended = λ g. ap (λ i. (reached part c (suc i)).world.stop) (let z : 0 + j ≡ n = omega (arith, is) in z) ∙ sym e }
  stops_more n running (Some p) new h within whole last e j l = by (before_or_last j n l)
    where
      by : (j < n) ⊎ (j ≡ n) → IsStop (reached part c (suc (0 + j))).world.stop (Some p) j running
      by (inl before) = h j before
      by (inr is) =
          record {
            going = λ g. absurd (omega (arith, g, is, within));
            ended = λ g. ap (λ i. (reached part c (suc i)).world.stop) (let z : 0 + j ≡ n = omega (arith, is) in z) ∙ stop_stays part c n p (last p refl);
          }

  within_more : (n running : ℕ) (stop new : Option StopPlace) → running ≤ n → running_behind running stop new ≤ suc n
  within_more n running None None l = omega (arith, l)
  within_more n running None (Some p) l = omega (arith, l)
  within_more n running (Some p) new l = omega (arith, l)

  whole_more : (n running : ℕ) (stop new : Option StopPlace) → (stop ≡ None → running ≡ n) → stop_behind stop new ≡ None → running_behind running stop new ≡ suc n
  whole_more n running None None h e = ap suc (h refl)
  whole_more n running None (Some p) h e = absurd cc
  whole_more n running (Some p) new h e = absurd cc

  last_more : (n : ℕ) (stop new : Option StopPlace) → ((p : StopPlace) → stop ≡ Some p → (reached part c n).world.stop ≡ Some p)
      → new ≡ (reached part c (suc n)).world.stop → (p : StopPlace) → stop_behind stop new ≡ Some p → (reached part c (suc n)).world.stop ≡ Some p
  last_more n None new h e p is = sym e ∙ is
  last_more n (Some q) new h e p is = stop_stays part c n p (h p is)

-- a run that is kept so far, and its next step
module _ (part : Workpiece) (c : Code) (n : ℕ) (old new : Running) (nexts ns : List ℕ) (points ps : List (Option Feature)) (running r : ℕ) (stop s : Option StopPlace)
    (which : Option ℕ) (b : Behind) (h : IsKeeping part c n old nexts points running stop) (step : new ≡ later 1 old) (shows : Shows which b new.state)
    (measured : which ≡ measures c old.state) (n_is : ns ≡ nexts ++ b.next ∷ []) (p_is : ps ≡ points ++ pointed which b.point)
    (r_is : r ≡ running_behind running stop b.stop) (s_is : s ≡ stop_behind stop b.stop) where
  on : new ≡ later (suc n) (started part c)
  on = later_more part c n old new h.is step

  there : new.state ≡ reached part c (suc n)
  there = ap (λ (m : Running). m.state) on

  shown : Shows which b (reached part c (suc n))
  shown = subst (Shows which b) there shows

  measured_at : which ≡ measures c (reached part c n)
  measured_at = measured ∙ ap (λ (m : Running). measures c m.state) h.is

  zero_on : 0 + n ≡ n
  zero_on = omega arith

  nexts_on : ns ≡ nexts_from part c 0 (suc n)
  nexts_on =
      n_is ∙ ap (λ l. l ++ b.next ∷ []) h.kept.nexts_are ∙ ap (λ x. nexts_from part c 0 n ++ x ∷ []) shown.next
      ∙ ap (λ j. nexts_from part c 0 n ++ (reached part c (suc j)).next ∷ []) (sym zero_on) ∙ sym (nexts_more part c 0 n)

  points_on : ps ≡ points_from part c 0 (suc n)
  points_on =
      p_is ∙ ap (λ l. l ++ pointed which b.point) h.kept.points_are ∙ ap (λ l. points_from part c 0 n ++ l) (shown_point which b (reached part c (suc n)) shown.point)
      ∙ ap (λ w. points_from part c 0 n ++ point_of w (reached part c (suc n))) measured_at
      ∙ ap (λ j. points_from part c 0 n ++ points_at part c j) (sym zero_on) ∙ sym (points_more part c 0 n)

  last_at : (p : StopPlace) → stop ≡ Some p → (reached part c n).world.stop ≡ Some p
  last_at p e = ap (λ (m : Running). m.state.world.stop) (sym h.is) ∙ h.last p e

  -- one step more is kept
  one_more : IsKeeping part c (suc n) new ns ps r s
  one_more = record {
    kept = record {
      nexts_are = nexts_on;
      points_are = points_on;
      stops_are = subst (λ x. AreStops part c 0 (suc n) x s) (sym r_is) (subst (λ x. AreStops part c 0 (suc n) (running_behind running stop b.stop) x) (sym s_is)
          (stops_more part c n running stop b.stop h.kept.stops_are h.within h.whole last_at shown.stop));
    };
    is = on;
    within = subst (λ x. x ≤ suc n) (sym r_is) (within_more part c n running stop b.stop h.within);
    whole = λ e. r_is ∙ whole_more part c n running stop b.stop h.whole (sym s_is ∙ e);
    last = λ p e. ap (λ (m : CodeState). m.world.stop) there ∙ last_more part c n stop b.stop last_at shown.stop p (sym s_is ∙ e);
  }

  pub keeps_more : IsKeeping part c (n + 1) new ns ps r s
  keeps_more = subst (λ k. IsKeeping part c k new ns ps r s) (let e : suc n ≡ n + 1 = omega arith in e) one_more

-- no step more, or some
none_or_some : (running : ℕ) → (0 < running) ⊎ (running ≤ 0)
none_or_some zero = inr (omega arith)
none_or_some (suc n) = inl (omega arith)

-- what is left of a run behind its next step
module _ (part : Workpiece) (c : Code) (n k : ℕ) (nexts ns : List ℕ) (points ps : List (Option Feature)) (running r : ℕ) (stop s : Option StopPlace)
    (which : Option ℕ) (b : Behind) (h : IsKept part c k (n - k) nexts points running stop) (l : k < n) (measured : which ≡ measures c (reached part c k))
    (next : (m : ℕ) (ms : List ℕ) → nexts ≡ m ∷ ms → (b.next ≡ m) × (ns ≡ ms))
    (point : (p : Option Feature) (qs : List (Option Feature)) → points ≡ pointed which p ++ qs → (ps ≡ qs) × ((i : ℕ) → which ≡ Some i → b.point ≡ p))
    (stopped : IsStop b.stop stop 0 running) (r_is : r ≡ running - 1) (s_is : s ≡ stop) where
  left : n - k ≡ suc (n - suc k)
  left = omega (arith, l)

  next_is : (b.next ≡ (reached part c (suc k)).next) × (ns ≡ nexts_from part c (suc k) (n - suc k))
  next_is = next _ _ (h.nexts_are ∙ ap (λ m. nexts_from part c k m) left)

  abbrev there_point : Option Feature
  there_point = point_at which (reached part c (suc k))

  point_on : (ps ≡ points_from part c (suc k) (n - suc k)) × ((i : ℕ) → which ≡ Some i → b.point ≡ there_point)
  point_on = point _ _ (h.points_are ∙ ap (λ m. points_from part c k m) left
      ∙ ap (λ w. point_of w (reached part c (suc k)) ++ points_from part c (suc k) (n - suc k)) (sym measured)
      ∙ ap (λ q. q ++ points_from part c (suc k) (n - suc k)) (point_is which (reached part c (suc k))))

  stop_first : IsStop (reached part c (suc k)).world.stop stop 0 running
  stop_first = subst (λ j. IsStop (reached part c (suc j)).world.stop stop 0 running) (let e : k + 0 ≡ k = omega arith in e) (h.stops_are 0 (omega (arith, l)))

  stop_is : b.stop ≡ (reached part c (suc k)).world.stop
  stop_is = by (none_or_some running)
    where
      by : (0 < running) ⊎ (running ≤ 0) → b.stop ≡ (reached part c (suc k)).world.stop
      by (inl going) = stopped.going going ∙ sym (stop_first.going going)
      by (inr ended) = stopped.ended ended ∙ sym (stop_first.ended ended)

  stops_left : AreStops part c (suc k) (n - suc k) (running - 1) stop
  stops_left j before =
      let x = h.stops_are (suc j) (omega (arith, before, l)) in
      let e : k + suc j ≡ suc k + j = omega arith in
      subst (λ i. IsStop (reached part c (suc i)).world.stop stop j (running - 1)) e
      (record { going = λ g. x.going (omega (arith, g)); ended = λ g. x.ended (omega (arith, g)) })

  pub replayed : Shows which b (reached part c (suc k)) × IsKept part c (suc k) (n - suc k) ns ps r s
  replayed = (
    record {
      stop = stop_is;
      next = next_is.0;
      point = λ i e. point_on.1 i e ∙ ap (λ w. point_at w (reached part c (suc k))) e;
    },
    record {
      nexts_are = next_is.1;
      points_are = point_on.0;
      stops_are = subst (λ x. AreStops part c (suc k) (n - suc k) x s) (sym r_is) (subst (λ x. AreStops part c (suc k) (n - suc k) (running - 1) x) (sym s_is) stops_left);
    },
  )

-- a whole run that is kept, as it is left before its first step
pub kept_of : (part : Workpiece) (c : Code) (n : ℕ) (t : Trail) (nexts : List ℕ) (points : List (Option Feature)) (running : ℕ) (stop : Option StopPlace)
    → nexts ≡ t.nexts.items → points ≡ t.points.items → running ≡ t.running → stop ≡ t.stop → IsTrail part c n t → IsKept part c 0 (n - 0) nexts points running stop
kept_of part c n t nexts points running stop ns ps r s h = record {
  nexts_are = ns ∙ h.nexts_are ∙ ap (λ k. nexts_from part c 0 k) (let e : n ≡ n - 0 = omega arith in e);
  points_are = ps ∙ h.points_are ∙ ap (λ k. points_from part c 0 k) (let e : n ≡ n - 0 = omega arith in e);
  stops_are = λ j l.
      subst (λ x. IsStop (reached part c (suc (0 + j))).world.stop x j running) (sym s)
      (subst (λ x. IsStop (reached part c (suc (0 + j))).world.stop t.stop j x) (sym r) (h.stops_are j (omega (arith, l))));
}
