-- A touch, line by line, and the first face on the way down.
use Rattle.std.proofs.Common.{◌≡◌, ℕ, zero, suc, ◌+◌, ◌*◌, ◌≤◌, ◌==◌, ℤ, pos, negsuc, ◌+ℤ◌, ◌*ℤ◌, Bool, true, false, ◌&&◌, cond, List, Option, Some, None}
use Rattle.std.proofs.Common.{Result, Ok, Err, refl, sym, ap, ◌∙◌, arith, inl, inr}
use Rattle.std.specs.Prelude.{IsTrue, not, neg_ℤ, if◌then◌else◌}
use Rattle.std.proofs.lemmas.Bool.{cases_order, and_from}
use Rattle.std.proofs.lemmas.Int.{ints}
use Rattle.vcm_num.specs.declared.point.Point.{Point}
use Rattle.vcm_num.specs.declared.axis.Axis.{Axis}
use Rattle.vcm_num.specs.declared.axis.Axis.TheVariants.{PlusX, MinusX, PlusY, MinusY, PlusZ, MinusZ}
use borrow.Author.Differences.{neg_is}
use Rattle.vcm_num.specs.Number.{fits_i64}
use Rattle.vcm_num.proofs.Ring.{add-mul}
use Rattle.vcm_num.specs.Point.{point, coordinate, is_near}
use Rattle.vcm_num.specs.Axis.{unit, opposite, along}
use Rattle.vcm_spec.specs.declared.workpiece.Block3.{Block3}
use Rattle.vcm_spec.specs.declared.feature.Touch.{Touch}
use Rattle.vcm_spec.specs.declared.stop.Stop.{Stop}
use Rattle.vcm_spec.specs.declared.stop.Stop.TheVariants.{Overflow, Travel, Missed}
use Rattle.vcm_spec.specs.declared.words.MovePhase.TheVariants.{Approach, Search}
use Rattle.vcm_spec.specs.Workpiece.{Workpiece, grown, is_some_met, is_blocked, is_within}
use Rattle.vcm_spec.specs.World.{Settings}
use Rattle.vcm_spec.specs.FirstContact.{contact, later_contact}
use Rattle.vcm_spec.specs.Touch.{centre_of, approach_of, end_of, down_of, past}
use Rattle.vcm_spec.specs.FirstTouch.{first_from, first_inside, free_of, free_move, touch}
use Rattle.vcm_spec.specs.Outcome.{Outcome, Gives, Stops, Answers, ◌>>=◌, demand, found, fits_place, point_of}
use Rattle.vcm_spec.proofs.Touches.{IsSearchOf, search_is}
use Rattle.vcm_motion.specs.declared.face.Face.{Face}
use Rattle.vcm_motion.specs.Faces.{IsFace, IsFirstFace}
use Rattle.vcm_motion.proofs.Inside.{one_of, some_of}
use Rattle.vcm_motion.proofs.Ahead.{in_same}
use Rattle.vcm_probe.specs.Places.{fitting_point}
use Rattle.vcm_probe.specs.Aims.{AreAimed}
use Rattle.vcm_probe.specs.inner.Retreats.{retreat}
use Rattle.vcm_probe.proofs.Fitted.{there, not_there}
use Rattle.vcm_probe.proofs.WayBack.{face_at}
use Rattle.vcm_probe.proofs.Nearness.{way_is_near}

-- ---- directions

cond_neg : (b : Bool) (u : ℤ) → cond b (neg_ℤ u) (pos 0) ≡ neg_ℤ (cond b u (pos 0))
cond_neg true u = refl
cond_neg false u = refl

-- the unit vector back
unit_back : (d : Axis) (k : ℕ) → unit (opposite d) k ≡ neg_ℤ (unit d k)
unit_back PlusX k = cond_neg (k == 0) (pos 1)
unit_back MinusX k = cond_neg (k == 0) (negsuc 0)
unit_back PlusY k = cond_neg (k == 1) (pos 1)
unit_back MinusY k = cond_neg (k == 1) (negsuc 0)
unit_back PlusZ k = cond_neg (k == 2) (pos 1)
unit_back MinusZ k = cond_neg (k == 2) (negsuc 0)

mul-neg : (k : ℕ) (u : ℤ) → pos k *ℤ neg_ℤ u ≡ neg_ℤ (pos k *ℤ u)
mul-neg k u = let n = neg_is u in omega (arith, ints, ap (λ (t : ℕ). k * t) n.0, ap (λ (t : ℕ). k * t) n.1)

-- some steps back and then one up
one_less : (x u w : ℤ) (t : ℕ) → w ≡ neg_ℤ u → (x +ℤ (pos (suc t) *ℤ w)) +ℤ (pos 1 *ℤ u) ≡ x +ℤ (pos t *ℤ w)
one_less x u w t e = rw e (omega (arith, ints, mul-neg (suc t) u, mul-neg t u))

-- ---- the first face is the first distance that a search finds

abbrev inside : ℕ → List Block3 → (ℕ → ℤ) → Axis → ℕ → Bool
inside h blocks x d t = is_some_met h blocks (along x d t)

module _ (w : ℕ) (blocks : List Block3) (x : ℕ → ℤ) (d : Axis) (n : ℕ) where
  finds : (face : Face) → IsFace w blocks x d n face → (o : Option ℕ) → IsSearchOf (inside w blocks x d) 0 (n + 1) o → o ≡ Some face.distance
  finds face is (Some u) h =
      let here : inside w blocks x d face.distance ≡ true = some_of w blocks (along x d face.distance) is.index is.block is.stands is.holds in
      let least = is.least u (let l = h.below in omega arith) h.passes in
      elim (cases_order u face.distance) [
        | inl e ↦ ap Some e
        | inr (inl l) ↦ absurd (omega arith)
        | inr (inr l) ↦ (let fails = h.before face.distance (omega arith) l in cc)
      ]
  finds face is None h =
      let here : inside w blocks x d face.distance ≡ true = some_of w blocks (along x d face.distance) is.index is.block is.stands is.holds in
      let within = is.within in
      let fails = h face.distance (omega arith) (omega arith) in
      cc

  finds_none : IsFirstFace w blocks x d n None → (o : Option ℕ) → IsSearchOf (inside w blocks x d) 0 (n + 1) o → o ≡ None
  finds_none none (Some u) h = absurd (none u (let l = h.below in omega arith) h.passes)
  finds_none none None h = refl

  pub face_is_first : (face : Face) → IsFace w blocks x d n face → first_from (inside w blocks x d) 0 (n + 1) ≡ Some face.distance
  face_is_first face is = finds face is (first_from (inside w blocks x d) 0 (n + 1)) (search_is (inside w blocks x d) 0 (n + 1))

  pub none_is_first : IsFirstFace w blocks x d n None → first_from (inside w blocks x d) 0 (n + 1) ≡ None
  none_is_first none = finds_none none (first_from (inside w blocks x d) 0 (n + 1)) (search_is (inside w blocks x d) 0 (n + 1))

-- ---- the touch, line by line

met : {A : Type 0} (b : Bool) (why : Stop) (f : Unit {0} → Outcome A) → b ≡ true → (demand b why >>= f) ≡ f tt
met b why f e = ap (λ t. demand t why >>= f) e

unmet : {A : Type 0} (b : Bool) (why : Stop) (f : Unit {0} → Outcome A) → b ≡ false → (demand b why >>= f) ≡ Stops why
unmet b why f e = ap (λ t. demand t why >>= f) e

same_contact : (part : Workpiece) (x y : ℕ → ℤ) → contact part x (coordinate (point_of y)) ≡ contact part x y
unfolding contact
same_contact part x y = refl

-- some steps and then more are all of them
more_steps : (x u : ℤ) (m n : ℕ) → x +ℤ (pos (m + n) *ℤ u) ≡ (x +ℤ (pos m *ℤ u)) +ℤ (pos n *ℤ u)
more_steps x u m n =
    let sum : pos (m + n) ≡ pos m +ℤ pos n = omega (arith, ints) in
    let e = ap (λ z. z *ℤ u) sum in
    let f = add-mul (pos m) (pos n) u in
    omega (arith, ints, e, f)

-- some steps up and then all these and more back are those more back
steps_back : (x u w : ℤ) (m n : ℕ) → w ≡ neg_ℤ u → (x +ℤ (pos m *ℤ u)) +ℤ (pos (m + n) *ℤ w) ≡ x +ℤ (pos n *ℤ w)
steps_back x u w m n e =
    let f = more_steps (x +ℤ (pos m *ℤ u)) w m n in
    let g : pos m *ℤ w ≡ neg_ℤ (pos m *ℤ u) = rw e (mul-neg m u) in
    omega (arith, ints, f, g)

abbrev fitting_three : ℤ → ℤ → ℤ → Option Point
fitting_three a b c = if fits_i64 a && fits_i64 b && fits_i64 c then Some (point a b c) else None

same_fitting : (x y : ℕ → ℤ) → x 0 ≡ y 0 → x 1 ≡ y 1 → x 2 ≡ y 2 → fitting_point x ≡ fitting_point y
same_fitting x y e f g =
    ap (λ a. fitting_three a (x 1) (x 2)) e ∙ ap (λ b. fitting_three (y 0) b (x 2)) f ∙ ap (λ c. fitting_three (y 0) (y 1) c) g

same_point : (x y : ℕ → ℤ) → x 0 ≡ y 0 → x 1 ≡ y 1 → x 2 ≡ y 2 → point_of x ≡ point_of y
same_point x y e f g =
    ap (λ a. point a (x 1) (x 2)) e ∙ ap (λ b. point (y 0) b (x 2)) f ∙ ap (λ c. point (y 0) (y 1) c) g

pub up_to : (part : Workpiece) (s : Settings) (nominal : ℕ → ℤ) (d : Axis) (n : ℕ) (o : Option Point) → n ≡ part.bounds.tip + s.approach → o ≡ fitting_point (along nominal d n)
    → o ≡ fitting_point (approach_of s (centre_of part nominal d) d)
up_to part s nominal d n o e f =
    f ∙ ap (λ k. fitting_point (along nominal d k)) e
    ∙ same_fitting (along nominal d (part.bounds.tip + s.approach)) (approach_of s (centre_of part nominal d) d)
    (more_steps (nominal 0) (unit d 0) part.bounds.tip s.approach) (more_steps (nominal 1) (unit d 1) part.bounds.tip s.approach) (more_steps (nominal 2) (unit d 2) part.bounds.tip s.approach)

pub down_to : (s : Settings) (centre : ℕ → ℤ) (d back : Axis) (n : ℕ) (approach : Point) (o : Option Point) → Some approach ≡ fitting_point (approach_of s centre d) → back ≡ opposite d
    → n ≡ s.approach + past s → o ≡ fitting_point (along (coordinate approach) back n) → o ≡ fitting_point (end_of s centre d)
down_to s centre d back n approach o a e f g =
    let at = there (fits_place (approach_of s centre d)) approach (point_of (approach_of s centre d)) a in
    let back_one : (k : ℕ) → along (approach_of s centre d) (opposite d) (s.approach + past s) k ≡ end_of s centre d k =
    λ k. steps_back (centre k) (unit d k) (unit (opposite d) k) s.approach (past s) (unit_back d k) in
    g ∙ ap (λ b. fitting_point (along (coordinate approach) b n)) e ∙ ap (λ k. fitting_point (along (coordinate approach) (opposite d) k)) f
    ∙ ap (λ (p : Point). fitting_point (along (coordinate p) (opposite d) (s.approach + past s))) at.same
    ∙ same_fitting (along (coordinate (point_of (approach_of s centre d))) (opposite d) (s.approach + past s)) (end_of s centre d) (back_one 0) (back_one 1) (back_one 2)

pub aimed : (s : Settings) (centre : ℕ → ℤ) (d : Axis) (approach end : Point) → Some approach ≡ fitting_point (approach_of s centre d) → Some end ≡ fitting_point (end_of s centre d) →
    AreAimed s centre d approach end
aimed s centre d approach end e f =
    let a = there (fits_place (approach_of s centre d)) approach (point_of (approach_of s centre d)) e in
    let b = there (fits_place (end_of s centre d)) end (point_of (end_of s centre d)) f in
    record { up = a.holds; down = b.holds; approach_is = a.same; end_is = b.same }

-- the end of the search, seen from the approach point
pub end_back : (s : Settings) (centre : ℕ → ℤ) (d : Axis) (approach end : Point) → AreAimed s centre d approach end
    → end ≡ point_of (along (coordinate approach) (opposite d) (s.approach + past s))
end_back s centre d approach end h =
    let back_one : (k : ℕ) → end_of s centre d k ≡ along (approach_of s centre d) (opposite d) (s.approach + past s) k =
    λ k. sym (steps_back (centre k) (unit d k) (unit (opposite d) k) s.approach (past s) (unit_back d k)) in
    h.end_is
    ∙ same_point (end_of s centre d) (along (coordinate (point_of (approach_of s centre d))) (opposite d) (s.approach + past s)) (back_one 0) (back_one 1) (back_one 2)
    ∙ ap (λ (p : Point). point_of (along (coordinate p) (opposite d) (s.approach + past s))) (sym h.approach_is)

module _ (part : Workpiece) (s : Settings) (from nominal : ℕ → ℤ) (d : Axis) where
  abbrev answer : Outcome Touch
  answer = touch part s from nominal d

  abbrev centre : ℕ → ℤ
  centre = centre_of part nominal d

  abbrev high : ℕ → ℤ
  high = approach_of s centre d

  abbrev low : ℕ → ℤ
  low = end_of s centre d

  abbrev length : ℕ
  length = s.approach + past s

  abbrev retreats : ℕ → Outcome Touch
  retreats t = retreat part (point_of (down_of s centre d t)) d s.retract

  abbrev searches : Outcome Touch
  searches = demand (is_within part.bounds low) (Travel Search) >>= (λ _. found (first_inside part s centre d) Missed >>= retreats)

  abbrev moves : Outcome Touch
  moves = free_move Approach part from high >>= (λ _. searches)

  answer_is : answer ≡ (demand (fits_place high && fits_place low) Overflow >>= (λ _. moves))
  unfolding touch later_contact
  answer_is = refl

  pub too_high : None ≡ fitting_point high → answer ≡ Stops Overflow
  too_high e = answer_is ∙ unmet _ _ _ (ap (λ b. b && fits_place low) (not_there (fits_place high) (point_of high) None refl e))

  pub too_low : (approach : Point) → Some approach ≡ fitting_point high → None ≡ fitting_point low → answer ≡ Stops Overflow
  too_low approach e f =
      let a = there (fits_place high) approach (point_of high) e in
      answer_is ∙ unmet _ _ _ (ap (λ b. b && fits_place low) a.holds ∙ not_there (fits_place low) (point_of low) None refl f)

  module _ (approach end : Point) (h : AreAimed s centre d approach end) where
    same_move : free_move Approach part from high ≡ free_move Approach part from (coordinate approach)
    same_move = sym (
        ap (λ p. free_move Approach part from (coordinate p)) h.approach_is
        ∙ ap (λ o. demand (is_within part.bounds high) (Travel Approach) >>= (λ _. free_of Approach o)) (same_contact part from high))

    on_move : answer ≡ moves
    on_move = answer_is ∙ met _ _ _ (and_from _ _ h.up h.down)

    pub stopped : (why : Stop) → free_move Approach part from (coordinate approach) ≡ Stops why → answer ≡ Stops why
    stopped why e = on_move ∙ ap (λ o. o >>= (λ _. searches)) (same_move ∙ e)

    module _ (u : Unit {0}) (free : free_move Approach part from (coordinate approach) ≡ Gives u) where
      on_search : answer ≡ searches
      on_search = on_move ∙ ap (λ o. o >>= (λ _. searches)) (same_move ∙ free)

      pub too_deep : is_within part.bounds (coordinate end) ≡ false → answer ≡ Stops (Travel Search)
      too_deep e = on_search ∙ unmet _ _ _ (ap (λ p. is_within part.bounds (coordinate p)) (sym h.end_is) ∙ e)

      module _ (within : is_within part.bounds (coordinate end) ≡ true) where
        on_descent : answer ≡ (found (first_inside part s centre d) Missed >>= retreats)
        on_descent = on_search ∙ met _ _ _ (ap (λ p. is_within part.bounds (coordinate p)) (sym h.end_is) ∙ within)

        pub missed : IsFirstFace part.bounds.tip part.blocks (coordinate approach) (opposite d) length None → answer ≡ Stops Missed
        missed none = on_descent ∙ ap (λ o. found o Missed >>= retreats) (none_is_first part.bounds.tip part.blocks high (opposite d) length (rw h.approach_is at none))

        pub touched : (face : Face) → IsFace part.bounds.tip part.blocks (coordinate approach) (opposite d) length face → (at : Point)
            → at ≡ point_of (along (coordinate approach) (opposite d) face.distance) →
            answer ≡ retreat part at d s.retract
        touched face is at here =
            let seen : IsFace part.bounds.tip part.blocks (coordinate (point_of high)) (opposite d) length face = rw h.approach_is at is in
            let there : at ≡ point_of (down_of s centre d face.distance) = rw h.approach_is at here in
            on_descent ∙ ap (λ o. found o Missed >>= retreats)
            (face_is_first part.bounds.tip part.blocks high (opposite d) length face
            (face_at part.bounds.tip part.blocks high (opposite d) length face seen))
            ∙ ap (λ p. retreat part p d s.retract) (sym there)

-- what answers one of two equal outcomes answers the other
pub answers_too : (o p : Outcome Touch) (r : Result Touch Stop) → o ≡ p → Answers p r → Answers o r
answers_too o p (Ok t) e h = e ∙ h
answers_too o p (Err why) e h = e ∙ h

-- ---- the point of the touch

pub not_in_some : (b : Bool) → IsTrue (not b) → b ≡ false
not_in_some true h = cc
not_in_some false h = refl

-- the centre at a touch is near 0, since the approach point and the end of the search are
pub touch_is_near : (approach end at : Point) (d : Axis) (t n : ℕ) → t ≤ n → is_near approach ≡ true → is_near end ≡ true → end ≡ point_of (along (coordinate approach) d n)
    → at ≡ point_of (along (coordinate approach) d t) → is_near at ≡ true
touch_is_near approach end at d t n le start stop e here = rw here (way_is_near approach d t n le start (rw e at stop))

module _ (part : Workpiece) (x : ℕ → ℤ) (d : Axis) (n : ℕ) (face : Face) (is : IsFace part.bounds.tip part.blocks x (opposite d) n face) (at : Point)
    (here : at ≡ point_of (along x (opposite d) face.distance)) where
  in_block : is_blocked part (along x (opposite d) face.distance) ≡ true
  in_block = some_of part.bounds.tip part.blocks (along x (opposite d) face.distance) is.index is.block is.stands is.holds

  some_same : (y z : ℕ → ℤ) → ((k : ℕ) → y k ≡ z k) → is_blocked part y ≡ true → is_blocked part z ≡ true
  some_same y z e some =
      let o = one_of part.bounds.tip part.blocks y some in
      some_of part.bounds.tip part.blocks z o.index o.block o.stands (in_same (grown part.bounds.tip o.block) y z (λ k l. e k) o.holds)

  step_off : (t : ℕ) → face.distance ≡ t → is_blocked part x ≡ false → ¬ IsTrue (is_blocked part (along (along x (opposite d) t) d 1))
  step_off zero e clear some =
      let start : is_blocked part x ≡ true = some_same (along x (opposite d) 0) x (λ k. omega (arith, ints)) (rw e at in_block) in
      cc
  step_off (suc u) e clear some =
      let before : is_blocked part (along x (opposite d) u) ≡ true =
      some_same (along (along x (opposite d) (suc u)) d 1) (along x (opposite d) u) (λ k. one_less (x k) (unit d k) (unit (opposite d) k) u (unit_back d k)) some in
      let within = is.within in
      let least = is.least u (omega arith) before in
      omega arith

  -- one step back from it the tip meets no block, if it meets none at the start
  pub off : is_blocked part x ≡ false → ¬ IsTrue (is_blocked part (along (coordinate at) d 1))
  off clear = rw here (step_off face.distance refl clear)
