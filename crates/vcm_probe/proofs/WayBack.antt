-- The first contact on the way back from a touch.
use Rattle.std.proofs.Common.{◌≡◌, ℕ, ◌+◌, ◌-◌, ◌*◌, ◌/◌, ◌<◌, ◌≤◌, ℤ, pos, ◌+ℤ◌, ◌-ℤ◌, List, Option, Some, None, slice_get, arith, ◌∙◌, subst, inl, inr}
use Rattle.std.specs.Prelude.{IsTrue}
use Rattle.std.proofs.Math.Nat.{mul-le-mul_right}
use Rattle.std.proofs.lemmas.Int.{ints}
use Rattle.std.proofs.lemmas.Nat.{le-div}
use Rattle.std.proofs.lemmas.Bool.{cases_eq, cases_Bool}
use Rattle.vcm_num.specs.declared.axis.Axis.{Axis}
use Rattle.vcm_num.specs.Point.{coordinate}
use Rattle.vcm_num.specs.Axis.{axis_of, is_forward, along}
use Rattle.vcm_num.proofs.DirectionLemmas.{along_forward, along_back, along_other}
use Rattle.vcm_spec.specs.declared.workpiece.Block3.{Block3}
use Rattle.vcm_spec.specs.declared.workpiece.Hit.{Hit}
use Rattle.vcm_spec.specs.Workpiece.{Workpiece, IsValid, grown, is_met, is_blocked}
use Rattle.vcm_spec.specs.Contact.{IsBetween, TipMeetsLater, IsPermille, IsHit, IsClear, IsLaterContact}
use Rattle.vcm_spec.specs.FirstContact.{later_contact}
use Rattle.vcm_spec.specs.Outcome.{point_of}
use Rattle.vcm_spec.proofs.Entries.{Leaves}
use Rattle.vcm_spec.proofs.Tips.{in_order, tip_meets_later, meets_tip_later}
use Rattle.vcm_spec.proofs.Contacts.{later_contact_is}
use Rattle.vcm_spec.proofs.Unique.{later_unique}
use Rattle.vcm_motion.specs.declared.face.Face.{Face}
use Rattle.vcm_motion.specs.Faces.{IsFace, IsFirstFace}
use Rattle.vcm_motion.proofs.Inside.{Holds, holds_of, in_of, some_of}
use Rattle.vcm_probe.proofs.Whole.{StaysBetween, holds_each, IsWholeAfter, whole_after, meets_whole}

-- what lies between two numbers at the start and later lies there one step on
pub one_between : (x : ℕ → ℤ) (d : Axis) (v k : ℕ) (low high : ℤ) → 1 ≤ v → StaysBetween low high (x k) → StaysBetween low high (along x d v k) →
    StaysBetween low high (along x d 1 k)
one_between x d v k low high hv start later = elim (cases_eq k (axis_of d)) [
  | inr ne ↦ rw (along_other x d 1 k ne) start
  | inl at ↦
      let a = start.from_low in
      let b = start.to_high in
      let c = later.from_low in
      let e = later.to_high in
      elim (cases_Bool (is_forward d)) [
        | inl up ↦
            let there : along x d v k ≡ x k +ℤ pos v = rw at (along_forward x d v up) in
            let here : along x d 1 k ≡ x k +ℤ pos 1 = rw at (along_forward x d 1 up) in
            rw here (record { from_low = omega (arith, ints); to_high = omega (arith, ints) })
        | inr down ↦
            let there : along x d v k ≡ x k -ℤ pos v = rw at (along_back x d v down) in
            let here : along x d 1 k ≡ x k -ℤ pos 1 = rw at (along_back x d 1 down) in
            rw here (record { from_low = omega (arith, ints); to_high = omega (arith, ints) })
      ]
]

-- what lies between two numbers at the start and at the end lies there on the way
pub way_between : (x : ℕ → ℤ) (d : Axis) (t n k : ℕ) (low high : ℤ) → t ≤ n → StaysBetween low high (x k) → StaysBetween low high (along x d n k) →
    StaysBetween low high (along x d t k)
way_between x d t n k low high le start end = elim (cases_eq k (axis_of d)) [
  | inr ne ↦ rw (along_other x d t k ne) start
  | inl at ↦
      let a = start.from_low in
      let b = start.to_high in
      let c = end.from_low in
      let e = end.to_high in
      elim (cases_Bool (is_forward d)) [
        | inl up ↦
            let there : along x d n k ≡ x k +ℤ pos n = rw at (along_forward x d n up) in
            let here : along x d t k ≡ x k +ℤ pos t = rw at (along_forward x d t up) in
            rw here (record { from_low = omega (arith, ints); to_high = omega (arith, ints) })
        | inr down ↦
            let there : along x d n k ≡ x k -ℤ pos n = rw at (along_back x d n down) in
            let here : along x d t k ≡ x k -ℤ pos t = rw at (along_back x d t down) in
            rw here (record { from_low = omega (arith, ints); to_high = omega (arith, ints) })
      ]
]

-- a face seen from the point at a place is one seen from the place
pub face_at : (h : ℕ) (blocks : List Block3) (y : ℕ → ℤ) (d : Axis) (n : ℕ) (face : Face) → IsFace h blocks (coordinate (point_of y)) d n face → IsFace h blocks y d n face
face_at h blocks y d n face m = record { index = m.index; block = m.block; number = m.number; stands = m.stands; within = m.within; holds = m.holds; least = m.least; lowest = m.lowest }

-- ---- contact on the way, told by a face that is seen from one step on

module _ (part : Workpiece) (valid : IsValid part) (x : ℕ → ℤ) (d : Axis) (n : ℕ) (hn : 1 ≤ n) (free : ¬ IsTrue (is_blocked part (along x d 1))) where
  abbrev tip : ℕ
  tip = part.bounds.tip

  free_at : (j : ℕ) (block : Block3) → slice_get part.blocks j ≡ Some block → ¬ Holds (grown tip block) (along x d 1)
  free_at j block stands h = free (some_of tip part.blocks (along x d 1) j block stands (in_of (grown tip block) (along x d 1) h))

  after : (j : ℕ) (block : Block3) → slice_get part.blocks j ≡ Some block → (a b : ℕ) → TipMeetsLater tip x (along x d n) block a b → (v : ℕ) × IsWholeAfter x d n (grown tip block) a b v
  after j block stands a b m = whole_after x d n (grown tip block) a b hn (tip_meets_later tip x (along x d n) block a b m) (free_at j block stands)

  -- a block that holds the start isn't met later
  start_of : (low high p q : ℤ) → IsBetween low high p q 0 1 → StaysBetween low high p
  start_of low high p q i = record { from_low = (let a = i.above in omega (arith, ints)); to_high = (let a = i.below in omega (arith, ints)) }

  leaves : (j : ℕ) (block : Block3) → slice_get part.blocks j ≡ Some block → Leaves x (along x d n) (grown tip block)
  leaves j block stands start a b m =
      let v = whole_after x d n (grown tip block) a b hn m (free_at j block stands) in
      let w = v.1 in
      free_at j block stands (holds_each (grown tip block) (along x d 1) (λ k l.
      one_between x d v.0 k (coordinate (grown tip block).low k) (coordinate (grown tip block).high k) w.some (start_of _ _ (x k) (along x d n k) (start.on_axis k l))
      (record { from_low = w.holds.from_low k l; to_high = w.holds.to_high k l })))

  pub later_is : (o : Option Hit) → IsLaterContact part x (along x d n) o → o ≡ later_contact part x (along x d n)
  later_is o h = later_unique part x (along x d n) o (later_contact part x (along x d n)) h (later_contact_is part valid x (along x d n) leaves)

  more : (t k : ℕ) → along (along x d 1) d t k ≡ along x d (t + 1) k
  more t k = omega (arith, ints)

  -- seen from one step on, and from the start
  stepped : (block : Block3) (t v : ℕ) → v ≡ t + 1 → Holds block (along x d v) → Holds block (along (along x d 1) d t)
  stepped block t v e h = record {
    from_low = λ k l. rw (more t k, ← e) (h.from_low k l);
    to_high = λ k l. rw (more t k, ← e) (h.to_high k l);
  }

  unstepped : (block : Block3) (t : ℕ) → Holds block (along (along x d 1) d t) → Holds block (along x d (t + 1))
  unstepped block t h = record { from_low = λ k l. rw (← more t k) (h.from_low k l); to_high = λ k l. rw (← more t k) (h.to_high k l) }

  some_stepped : (block : Block3) (a b v : ℕ) → IsWholeAfter x d n (grown tip block) a b v → IsTrue (is_met tip block (along (along x d 1) d (v - 1)))
  some_stepped block a b v w =
      in_of (grown tip block) (along (along x d 1) d (v - 1)) (stepped (grown tip block) (v - 1) v (let l = w.some in omega arith) w.holds)

  seen : (j : ℕ) (block : Block3) → slice_get part.blocks j ≡ Some block → (a b : ℕ) → (v : ℕ) → IsWholeAfter x d n (grown tip block) a b v →
      IsTrue (is_blocked part (along (along x d 1) d (v - 1)))
  seen j block stands a b v w = some_of tip part.blocks (along (along x d 1) d (v - 1)) j block stands (some_stepped block a b v w)

  pub back_clear : IsFirstFace tip part.blocks (along x d 1) d (n - 1) None → IsClear part.blocks (TipMeetsLater tip x (along x d n))
  back_clear none j block stands a b m =
      let v = after j block stands a b m in
      let w = v.1 in
      none (v.0 - 1) (let l = w.within in omega arith) (seen j block stands a b v.0 w)

  module _ (face : Face) (is : IsFace tip part.blocks (along x d 1) d (n - 1) face) where
    not_later : (j : ℕ) (other : Block3) → slice_get part.blocks j ≡ Some other → (a b v : ℕ) → IsWholeAfter x d n (grown tip other) a b v → face.distance + 1 ≤ v
    not_later j other stands a b v w =
        let l = is.least (v - 1) (let l = w.within in omega arith) (seen j other stands a b v w) in
        let s = w.some in
        omega arith

    pub back_hit : (hit : Hit) → hit.block ≡ face.block → IsPermille (face.distance + 1) n hit.permille → IsHit part.blocks (TipMeetsLater tip x (along x d n)) hit
    back_hit hit number permille =
        let within = is.within in
        let there : Holds (grown tip is.block) (along x d (face.distance + 1)) =
        unstepped (grown tip is.block) face.distance (holds_of (grown tip is.block) (along (along x d 1) d face.distance) is.holds) in
        record {
          index = is.index;
          a = face.distance + 1;
          b = n;
          first = record {
            block = is.block;
            stands = is.stands;
            meets = meets_tip_later tip x (along x d n) is.block (in_order part valid is.index is.block is.stands) (face.distance + 1) n
                (record { meets = meets_whole x d n (face.distance + 1) (grown tip is.block) hn (omega arith) there; later = omega arith });
            earliest = λ j other stands a b m.
                let v = after j other stands a b m in
                let le = not_later j other stands a b v.0 v.1 in
                omega (arith, v.1.reached, mul-le-mul_right b le);
            lowest = λ j other before stands a b m.
                let v = after j other stands a b m in
                let w = v.1 in
                let positive : 0 < b = m.meets.fraction.positive in
                let s = w.some in
                let no_less = not_later j other stands a b v.0 w in
                elim (cases_eq (v.0 - 1) face.distance) [
                  | inl same ↦ absurd (is.lowest j other before stands (subst (λ (t : ℕ). IsTrue (is_met tip other (along (along x d 1) d t))) same (some_stepped other a b v.0 w)))
                  | inr differ ↦
                      let le : face.distance + 1 + 1 ≤ v.0 = omega arith in
                      omega (arith, w.reached, mul-le-mul_right b le)
                ];
          };
          number = number ∙ is.number;
          permille = permille;
        }

pub permille_of : (a n : ℕ) → 1 ≤ n → IsPermille a n (1000 * a / n)
permille_of a n h = record { reached = omega arith; greatest = λ m l. le-div m (1000 * a) n h l }
