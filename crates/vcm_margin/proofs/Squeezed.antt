-- What a tip does whose width lies between those of two that do the same.
use Rattle.std.proofs.Common.{◌≡◌, ℕ, ◌<◌, ◌≤◌, ℤ, pos, negsuc, ◌+ℤ◌, ◌-ℤ◌, ◌≤ℤ◌, Bool, true, false, ◌&&◌, Option, Some, None, refl, sym, ap, ◌∙◌, subst, arith}
use Rattle.std.specs.Prelude.{nat_lt, neg_ℤ, ◌^◌}
use Rattle.std.proofs.lemmas.Bool.{and_parts, and_from, lt-ltb, ltb-true}
use Rattle.std.proofs.lemmas.Int.{ints}
use Rattle.vcm_num.specs.declared.point.Point.{Point}
use Rattle.vcm_num.specs.declared.axis.Axis.{Axis}
use Rattle.vcm_num.specs.Axis.{along, opposite}
use Rattle.vcm_num.specs.Number.{fits_i64}
use Rattle.vcm_num.specs.Point.{coordinate, on_each}
use Rattle.vcm_spec.specs.declared.workpiece.Hit.{Hit}
use Rattle.vcm_spec.specs.declared.feature.Touch.{Touch}
use Rattle.vcm_spec.specs.declared.stop.Stop.{Stop}
use Rattle.vcm_spec.specs.declared.stop.Stop.TheVariants.{Travel}
use Rattle.vcm_spec.specs.declared.words.MovePhase.{MovePhase}
use Rattle.vcm_spec.specs.World.{Settings}
use Rattle.vcm_spec.specs.Workpiece.{Workpiece, IsValid, is_within}
use Rattle.vcm_spec.specs.Contact.{IsContact}
use Rattle.vcm_spec.specs.Touch.{approach_of, end_of, down_of, back_of, touched_of, past, IsRetracted, IsTouch}
use Rattle.vcm_spec.specs.FirstContact.{contact}
use Rattle.vcm_spec.specs.FirstTouch.{free_of, free_move, touch}
use Rattle.vcm_spec.specs.Outcome.{Outcome, Gives, Stops, ◌>>=◌, demand, fits_place, point_of}
use Rattle.vcm_spec.proofs.Entries.{below_three}
use Rattle.vcm_spec.proofs.Contacts.{contact_is}
use Rattle.vcm_spec.proofs.Unique.{contact_unique}
use Rattle.vcm_spec.proofs.Touches.{touch_is}
use Rattle.vcm_spec.proofs.TouchUnique.{touch_unique}
use Rattle.vcm_part.specs.Tip.{with_tip}
use Rattle.vcm_margin.proofs.Cubes.{LiesIn, lies_along, lies_off, IsMiddle, middle_along, middle_off, within_middle, clear_narrower, clear_narrower_later, some_met_wider, face_same, face_tells}

-- ---- places between two that can be told

abbrev fit : ℕ → ℤ → Bool
fit m (pos n) = nat_lt n m
fit m (negsuc n) = nat_lt n m

record IsWithin (m : ℕ) (z : ℤ) : Type 0 where
  low : neg_ℤ (pos m) ≤ℤ z
  high : (z +ℤ pos 1) ≤ℤ pos m

fit_is : (m : ℕ) (z : ℤ) → fit m z ≡ true → IsWithin m z
fit_is m (pos n) e = (let l = ltb-true n m e in record { low = omega (arith, ints, l); high = omega (arith, ints, l) })
fit_is m (negsuc n) e = (let l = ltb-true n m e in record { low = omega (arith, ints, l); high = omega (arith, ints, l) })

is_fit : (m : ℕ) (z : ℤ) → IsWithin m z → fit m z ≡ true
is_fit m (pos n) w = (let h = w.high in lt-ltb n m (omega (arith, ints, h)))
is_fit m (negsuc n) w = (let l = w.low in lt-ltb n m (omega (arith, ints, l)))

fit_middle : (m : ℕ) (x y z : ℤ) → IsMiddle x y z → fit m x ≡ true → fit m z ≡ true → fit m y ≡ true
fit_middle m x y z k e f =
    let a = fit_is m x e in
    let b = fit_is m z f in
    let h = k.under (pos m -ℤ pos 1) (let c = a.high in omega (arith, ints, c)) (let c = b.high in omega (arith, ints, c)) in
    is_fit m y (record { low = k.over (neg_ℤ (pos m)) a.low b.low; high = omega (arith, ints, h) })

fit_64 : (z : ℤ) → fits_i64 z ≡ fit (2 ^ 63) z
fit_64 (pos n) = refl
fit_64 (negsuc n) = refl

fits_middle : (x y z : ℤ) → IsMiddle x y z → fits_i64 x ≡ true → fits_i64 z ≡ true → fits_i64 y ≡ true
fits_middle x y z m e f = fit_64 y ∙ fit_middle (2 ^ 63) x y z m (sym (fit_64 x) ∙ e) (sym (fit_64 z) ∙ f)

three : (test : ℕ → Bool) → on_each test ≡ true → (test 0 ≡ true) × (test 1 ≡ true) × (test 2 ≡ true)
three test h =
    let a = and_parts (test 0 && test 1) (test 2) h in
    let b = and_parts (test 0) (test 1) a.0 in
    (b.0, b.1, a.1)

place_middle : (x y z : ℕ → ℤ) → ((k : ℕ) → k < 3 → IsMiddle (x k) (y k) (z k)) → fits_place x ≡ true → fits_place z ≡ true → fits_place y ≡ true
place_middle x y z m e f =
    let a = three (λ k. fits_i64 (x k)) e in
    let b = three (λ k. fits_i64 (z k)) f in
    and_from _ _ (and_from _ _ (fits_middle _ _ _ (m 0 (omega arith)) a.0 b.0) (fits_middle _ _ _ (m 1 (omega arith)) a.1 b.1)) (fits_middle _ _ _ (m 2 (omega arith)) a.2 b.2)

lies_points : (g h : ℕ) (x y : ℕ → ℤ) → LiesIn g y h x → LiesIn g (coordinate (point_of y)) h (coordinate (point_of x))
lies_points g h x y l = record {
  low = below_three (λ k. (coordinate (point_of x) k -ℤ pos h) ≤ℤ (coordinate (point_of y) k -ℤ pos g)) (l.low 0 (omega arith)) (l.low 1 (omega arith)) (l.low 2 (omega arith));
  high = below_three (λ k. (coordinate (point_of y) k +ℤ pos g) ≤ℤ (coordinate (point_of x) k +ℤ pos h)) (l.high 0 (omega arith)) (l.high 1 (omega arith)) (l.high 2 (omega arith));
}

-- ---- moves

gives_not : {A : Type 0} (why : Stop) (x : A) → Stops why ≡ Gives x → ⊥
gives_not why x e = cc

-- where a wider tip moves to a target freely, a narrower one does that lies in it at the start
pub move_narrower : (part : Workpiece) (h i : ℕ) → IsValid (with_tip h part) → IsValid (with_tip i part) → h ≤ i → (phase : MovePhase) (x s y : ℕ → ℤ)
    → LiesIn h x i s → free_move phase (with_tip i part) s y ≡ Gives tt → free_move phase (with_tip h part) x y ≡ Gives tt
move_narrower part h i narrow wide le phase x s y l e = by (is_within part.bounds y) refl (contact (with_tip i part) s y) (contact_is (with_tip i part) wide s y) e
  where
    clear : IsContact (with_tip i part) s y None → contact (with_tip h part) x y ≡ None
    clear c = sym (contact_unique (with_tip h part) narrow x y None
        (clear_narrower h i x y s y l (record { low = λ k b. omega (arith, ints, le); high = λ k b. omega (arith, ints, le) }) part.blocks c))

    by : (b : Bool) → is_within part.bounds y ≡ b → (o : Option Hit) → IsContact (with_tip i part) s y o
        → demand b (Travel phase) >>= (λ _. free_of phase o) ≡ Gives tt → free_move phase (with_tip h part) x y ≡ Gives tt
    by true w None c f = (λ j. demand (w j) (Travel phase) >>= (λ _. free_of phase (clear c j)))
    by true w (Some hit) c f = absurd (gives_not _ _ f)
    by false w o c f = absurd (gives_not _ _ f)

-- ---- touches

-- what a tip of half width h does where a narrower one touches x, and one of half width i touches the same point, z: it touches that, and goes back to a
-- place round which its cube lies in that of the wider one
pub record TouchesSo (h i : ℕ) (o : Outcome Touch) (x z : Touch) : Type 0 where
  pub retract : Point
  pub is : o ≡ Gives (record { at = x.at; retract = retract })
  pub lies : LiesIn h (coordinate retract) i (coordinate z.retract)

module _ (part : Workpiece) (s : Settings) (nominal : ℕ → ℤ) (d : Axis) (g h i : ℕ) (le : g ≤ h) (more : h ≤ i) where
  abbrev centre : ℕ → ℕ → ℤ
  centre w = along nominal d w

  lies_approach : (v w : ℕ) → v ≤ w → LiesIn v (approach_of s (centre v) d) w (approach_of s (centre w) d)
  lies_approach v w l = lies_along v w (centre w) (centre v) d s.approach (lies_off v w l nominal d)

  lies_down : (v w : ℕ) → v ≤ w → (t : ℕ) → LiesIn v (down_of s (centre v) d t) w (down_of s (centre w) d t)
  lies_down v w l t = lies_along v w _ _ (opposite d) t (lies_approach v w l)

  lies_back : (v w : ℕ) → v ≤ w → (t : ℕ) → LiesIn v (back_of s (centre v) d t) w (back_of s (centre w) d t)
  lies_back v w l t = lies_along v w _ _ d s.retract (lies_down v w l t)

  approach_middle : (k : ℕ) → k < 3 → IsMiddle (approach_of s (centre g) d k) (approach_of s (centre h) d k) (approach_of s (centre i) d k)
  approach_middle k l = middle_along (centre g) (centre h) (centre i) d s.approach k (middle_off g h i le more nominal d k)

  end_middle : (k : ℕ) → k < 3 → IsMiddle (end_of s (centre g) d k) (end_of s (centre h) d k) (end_of s (centre i) d k)
  end_middle k l = middle_along (centre g) (centre h) (centre i) (opposite d) (past s) k (middle_off g h i le more nominal d k)

  back_middle : (t k : ℕ) → k < 3 → IsMiddle (back_of s (centre g) d t k) (back_of s (centre h) d t k) (back_of s (centre i) d t k)
  back_middle t k l =
      middle_along (down_of s (centre g) d t) (down_of s (centre h) d t) (down_of s (centre i) d t) d s.retract k
      (middle_along (approach_of s (centre g) d) (approach_of s (centre h) d) (approach_of s (centre i) d) (opposite d) t k (approach_middle k l))

  -- where a narrower and a wider tip touch as far down, and go back, so does one between them
  squeezed : (from_g from_h from_i : ℕ → ℤ) → LiesIn h from_h i from_i → (t : ℕ) → IsRetracted (with_tip g part) s from_g (centre g) d t
      → IsRetracted (with_tip i part) s from_i (centre i) d t → IsRetracted (with_tip h part) s from_h (centre h) d t
  squeezed from_g from_h from_i l t narrow wide =
      let a = narrow.touched.searched in
      let b = wide.touched.searched in
      record {
        touched = record {
          searched = record {
            approached = record {
              aimed = record {
                approach = place_middle _ _ _ approach_middle a.approached.aimed.approach b.approached.aimed.approach;
                end = place_middle _ _ _ end_middle a.approached.aimed.end b.approached.aimed.end;
              };
              within = within_middle part.bounds _ _ _ approach_middle a.approached.within b.approached.within;
              clear = clear_narrower h i from_h (approach_of s (centre h) d) from_i (approach_of s (centre i) d) l (lies_approach h i more) part.blocks b.approached.clear;
            };
            within = within_middle part.bounds _ _ _ end_middle a.within b.within;
          };
          reached = narrow.touched.reached;
          met = some_met_wider g h (down_of s (centre h) d t) (down_of s (centre g) d t) (lies_down g h le t) part.blocks narrow.touched.met;
          first = λ u b m. wide.touched.first u b (some_met_wider h i (down_of s (centre i) d u) (down_of s (centre h) d u) (lies_down h i more u) part.blocks m);
        };
        within = within_middle part.bounds _ _ _ (back_middle t) narrow.within wide.within;
        clear = clear_narrower_later h i (down_of s (centre h) d t) (back_of s (centre h) d t) (down_of s (centre i) d t) (back_of s (centre i) d t)
            (lies_down h i more t) (lies_back h i more t) part.blocks wide.clear;
      }

  coordinate_of : (x : ℕ → ℤ) (p : Point) → p ≡ point_of x → (k : ℕ) → k < 3 → coordinate p k ≡ x k
  coordinate_of x p e k l = ap (λ (q : Point). coordinate q k) e ∙ below_three (λ j. coordinate (point_of x) j ≡ x j) refl refl refl k l

  -- two tips that touch one point are as far down
  as_far : (t u : ℕ) (p q : Point) → p ≡ point_of (touched_of (with_tip g part) s (centre g) d t) → q ≡ point_of (touched_of (with_tip i part) s (centre i) d u)
      → ((k : ℕ) → k < 3 → coordinate p k ≡ coordinate q k) → t ≡ u
  as_far t u p q e f same = face_tells g nominal d s.approach t u (λ k l.
      sym (coordinate_of (touched_of (with_tip g part) s (centre g) d t) p e k l) ∙ same k l ∙ coordinate_of (touched_of (with_tip i part) s (centre i) d u) q f k l
      ∙ sym (face_same g i nominal d s.approach u k))

  pub touch_squeezed : IsValid (with_tip g part) → IsValid (with_tip h part) → IsValid (with_tip i part) → 0 < s.retract
      → (from_g from_h from_i : ℕ → ℤ) → LiesIn h from_h i from_i → (x z : Touch) → touch (with_tip g part) s from_g nominal d ≡ Gives x
      → touch (with_tip i part) s from_i nominal d ≡ Gives z → ((k : ℕ) → k < 3 → coordinate x.at k ≡ coordinate z.at k)
      → TouchesSo h i (touch (with_tip h part) s from_h nominal d) x z
  touch_squeezed vg vh vi back from_g from_h from_i l x z e f same =
      by (subst (IsTouch (with_tip g part) s from_g nominal d) e (touch_is (with_tip g part) vg s from_g nominal d back))
      (subst (IsTouch (with_tip i part) s from_i nominal d) f (touch_is (with_tip i part) vi s from_i nominal d back))
    where
      by : IsTouch (with_tip g part) s from_g nominal d (Gives x) → IsTouch (with_tip i part) s from_i nominal d (Gives z)
          → TouchesSo h i (touch (with_tip h part) s from_h nominal d) x z
      by (t, a, p, q) (u, b, v, w) =
          let far : u ≡ t = sym (as_far t u x.at z.at p v same) in
          let wide : IsRetracted (with_tip i part) s from_i (centre i) d t = subst (IsRetracted (with_tip i part) s from_i (centre i) d) far b in
          let retract : Point = point_of (back_of s (centre h) d t) in
          let at : x.at ≡ point_of (touched_of (with_tip h part) s (centre h) d t) =
          p ∙ (λ j. point_of (λ k. face_same g h nominal d s.approach t k j)) in
          let gone : z.retract ≡ point_of (back_of s (centre i) d t) = w ∙ ap (λ (n : ℕ). point_of (back_of s (centre i) d n)) far in
          record {
            retract = retract;
            is = sym (touch_unique (with_tip h part) vh s from_h nominal d back (Gives (record { at = x.at; retract = retract }))
                (t, squeezed from_g from_h from_i l t a wide, at, refl));
            lies = subst (λ (r : Point). LiesIn h (coordinate retract) i (coordinate r)) (sym gone)
                (lies_points h i (back_of s (centre i) d t) (back_of s (centre h) d t) (lies_back h i more t));
          }
