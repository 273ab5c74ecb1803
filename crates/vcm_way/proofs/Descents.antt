-- The points of a measurement, as the code has them.
use Rattle.std.proofs.Common.{◌≡◌, ℕ, ℤ, ◌+◌, ◌≤◌, true, List, ◌∷◌, Option, Some, None, refl, sym, ap, ◌∙◌, subst, arith}
use Rattle.std.specs.Prelude.{unwrap_or}
use Rattle.vcm_num.specs.declared.axis.Axis.{Axis}
use Rattle.vcm_num.specs.declared.point.Point.{Point}
use Rattle.vcm_num.specs.Axis.{along, opposite}
use Rattle.vcm_num.specs.Point.{coordinate, is_near}
use Rattle.vcm_spec.specs.declared.workpiece.Hit.{Hit}
use Rattle.vcm_spec.specs.declared.stop.Stop.{Stop}
use Rattle.vcm_spec.specs.declared.stop.Stop.TheVariants.{Ended, Overflow, DivZero, ZeroStep, Undefined, BadSetting, OutputFull, Travel, Collision, Missed}
use Rattle.vcm_spec.specs.declared.words.MovePhase.TheVariants.{Move, Approach, Search, Retract}
use Rattle.vcm_spec.specs.Workpiece.{Workpiece, IsValid, is_within}
use Rattle.vcm_spec.specs.World.{Settings}
use Rattle.vcm_spec.specs.Touch.{centre_of, approach_of, down_of, back_of, past}
use Rattle.vcm_spec.specs.FirstTouch.{first_inside, touch}
use Rattle.vcm_spec.specs.Outcome.{point_of}
use Rattle.vcm_motion.specs.declared.face.Face.{Face}
use Rattle.vcm_motion.specs.Faces.{IsFace, IsFirstFace}
use Rattle.vcm_probe.specs.Aims.{AreAimed}
use Rattle.vcm_probe.proofs.Descent.{face_is_first, none_is_first, end_back, touch_is_near}
use Rattle.vcm_probe.proofs.WayBack.{face_at}
use Rattle.vcm_probe.proofs.Nearness.{within_is_near}
use Rattle.vcm_marks.specs.declared.mark.Mark.{Mark}
use Rattle.vcm_marks.specs.declared.mark.Going.TheVariants as going
use Rattle.vcm_way.specs.Marks.{goes, touches, Touching, touching, touched_then, marks_of_touch}
use Rattle.vcm_way.specs.Steps.{EndsAs}
use Rattle.vcm_way.specs.inner.Endings.{HasTouched, IsNearAtHit, behind, distance_of}
use Rattle.vcm_way.proofs.Ends.{HasAimed, HasSearched, HasReturned, approach_within, end_within, back_within}

-- the retract point is near where the way to it meets a block
pub near_at_hit : (retract : Point) (stop : Option Stop) (hit : Hit) → stop ≡ Some (Collision Retract hit) → IsNearAtHit retract stop → is_near retract ≡ true
near_at_hit retract stop hit e h = subst (λ (o : Option Stop). IsNearAtHit retract o) e h

aimed_too : (stop : Option Stop) → HasTouched stop → HasAimed stop × HasSearched stop
aimed_too None h = (tt, tt)
aimed_too (Some (Travel Retract)) h = (tt, tt)
aimed_too (Some (Collision Retract hit)) h = (tt, tt)
aimed_too (Some (Travel Move)) h = absurd h
aimed_too (Some (Travel Approach)) h = absurd h
aimed_too (Some (Travel Search)) h = absurd h
aimed_too (Some (Collision Move hit)) h = absurd h
aimed_too (Some (Collision Approach hit)) h = absurd h
aimed_too (Some (Collision Search hit)) h = absurd h
aimed_too (Some Ended) h = absurd h
aimed_too (Some Missed) h = absurd h
aimed_too (Some Overflow) h = absurd h
aimed_too (Some DivZero) h = absurd h
aimed_too (Some ZeroStep) h = absurd h
aimed_too (Some (Undefined what)) h = absurd h
aimed_too (Some BadSetting) h = absurd h
aimed_too (Some OutputFull) h = absurd h

same_behind : (part : Workpiece) (p : Point) (t : Touching) (stop : Option Stop) → HasTouched stop → touched_then p t (behind part t.touch t.retract stop) ≡ marks_of_touch part p t stop
same_behind part p t None h = refl
same_behind part p t (Some (Travel Retract)) h = refl
same_behind part p t (Some (Collision Retract hit)) h = refl
same_behind part p t (Some (Travel Move)) h = absurd h
same_behind part p t (Some (Travel Approach)) h = absurd h
same_behind part p t (Some (Travel Search)) h = absurd h
same_behind part p t (Some (Collision Move hit)) h = absurd h
same_behind part p t (Some (Collision Approach hit)) h = absurd h
same_behind part p t (Some (Collision Search hit)) h = absurd h
same_behind part p t (Some Ended) h = absurd h
same_behind part p t (Some Missed) h = absurd h
same_behind part p t (Some Overflow) h = absurd h
same_behind part p t (Some DivZero) h = absurd h
same_behind part p t (Some ZeroStep) h = absurd h
same_behind part p t (Some (Undefined what)) h = absurd h
same_behind part p t (Some BadSetting) h = absurd h
same_behind part p t (Some OutputFull) h = absurd h

near_at : (retract : Point) (stop : Option Stop) → (HasReturned stop → is_near retract ≡ true) → IsNearAtHit retract stop
near_at retract None h = tt
near_at retract (Some (Collision Retract hit)) h = h tt
near_at retract (Some (Collision Move hit)) h = tt
near_at retract (Some (Collision Approach hit)) h = tt
near_at retract (Some (Collision Search hit)) h = tt
near_at retract (Some (Travel phase)) h = tt
near_at retract (Some Ended) h = tt
near_at retract (Some Missed) h = tt
near_at retract (Some Overflow) h = tt
near_at retract (Some DivZero) h = tt
near_at retract (Some ZeroStep) h = tt
near_at retract (Some (Undefined what)) h = tt
near_at retract (Some BadSetting) h = tt
near_at retract (Some OutputFull) h = tt

-- ---- the touch

module _ (part : Workpiece) (s : Settings) (centre : ℕ → ℤ) (d : Axis) (approach end : Point) (aims : AreAimed s centre d approach end) where
  abbrev length : ℕ
  length = s.approach + past s

  abbrev high : ℕ → ℤ
  high = approach_of s centre d

  first_is : (face : Option Face) → IsFirstFace part.bounds.tip part.blocks (coordinate approach) (opposite d) length face
      → first_inside part s centre d ≡ elim face [ None ↦ None | Some f ↦ Some f.distance ]
  first_is None none = none_is_first part.bounds.tip part.blocks high (opposite d) length (rw aims.approach_is at none)
  first_is (Some face) is =
      let seen : IsFace part.bounds.tip part.blocks (coordinate (point_of high)) (opposite d) length face = rw aims.approach_is at is in
      face_is_first part.bounds.tip part.blocks high (opposite d) length face (face_at part.bounds.tip part.blocks high (opposite d) length face seen)

  distance_is : (face : Option Face) → IsFirstFace part.bounds.tip part.blocks (coordinate approach) (opposite d) length face → distance_of face ≡ unwrap_or (first_inside part s centre d) 0
  distance_is None none = sym (ap (λ (o : Option ℕ). unwrap_or o 0) (first_is None none))
  distance_is (Some face) is = sym (ap (λ (o : Option ℕ). unwrap_or o 0) (first_is (Some face) is))

  within : (face : Option Face) → IsFirstFace part.bounds.tip part.blocks (coordinate approach) (opposite d) length face → distance_of face ≤ length
  within None none = omega arith
  within (Some face) is = is.within

  module _ (face : Option Face) (is : IsFirstFace part.bounds.tip part.blocks (coordinate approach) (opposite d) length face) (at : Point)
      (here : at ≡ point_of (along (coordinate approach) (opposite d) (distance_of face))) where
    -- where the tip touches
    pub touch_point_is : at ≡ point_of (down_of s centre d (unwrap_or (first_inside part s centre d) 0))
    touch_point_is =
        here ∙ ap (λ (n : ℕ). point_of (along (coordinate approach) (opposite d) n)) (distance_is face is)
        ∙ ap (λ (p : Point). point_of (along (coordinate p) (opposite d) (unwrap_or (first_inside part s centre d) 0))) aims.approach_is

    pub touch_point_near : is_near approach ≡ true → is_near end ≡ true → is_near at ≡ true
    touch_point_near start stop =
        touch_is_near approach end at (opposite d) (distance_of face) length (within face is) start stop (end_back s centre d approach end aims) here

-- ---- a measurement with its stop

module _ (part : Workpiece) (valid : IsValid part) (s : Settings) (from nominal : Point) (d : Axis) (stop : Option Stop)
    (ends : EndsAs (touch part s (coordinate from) (coordinate nominal) d) stop) where
  abbrev middle : ℕ → ℤ
  middle = centre_of part (coordinate nominal) d

  module _ (approach end : Point) (aims : AreAimed s middle d approach end) where
    pub approach_near : HasAimed stop → is_near approach ≡ true
    approach_near p =
        within_is_near part valid approach
        (ap (λ (q : Point). is_within part.bounds (coordinate q)) aims.approach_is ∙ approach_within part s (coordinate from) (coordinate nominal) d stop ends p)

    module _ (has : HasTouched stop) where
      pub start_near : is_near approach ≡ true
      start_near = approach_near (aimed_too stop has).0

      pub end_near : is_near end ≡ true
      end_near =
          within_is_near part valid end
          (ap (λ (q : Point). is_within part.bounds (coordinate q)) aims.end_is ∙ end_within part s (coordinate from) (coordinate nominal) d stop ends (aimed_too stop has).1)

      abbrev depth : ℕ
      depth = unwrap_or (first_inside part s middle d) 0

      module _ (at retract : Point) (at_is : at ≡ point_of (down_of s middle d depth)) (retract_is : retract ≡ point_of (along (coordinate at) d s.retract)) where
        retract_at : retract ≡ point_of (back_of s middle d depth)
        retract_at = retract_is ∙ ap (λ (p : Point). point_of (along (coordinate p) d s.retract)) at_is

        pub retract_near : IsNearAtHit retract stop
        retract_near = near_at retract stop (λ p. within_is_near part valid retract
            (ap (λ (q : Point). is_within part.bounds (coordinate q)) retract_at ∙ back_within part s (coordinate from) (coordinate nominal) d stop ends p))

        abbrev marks_with : Point → Point → Point → ℕ → List Mark
        marks_with a t r feature =
            goes going.Approach from a ∷ goes going.Search a t ∷ touches (point_of (along (coordinate t) (opposite d) part.bounds.tip)) feature ∷ behind part t r stop

        pub all_marks : (feature : ℕ) → marks_with approach at retract feature ≡ marks_of_touch part from (touching part s middle d feature) stop
        all_marks feature =
            ap (λ (a : Point). marks_with a at retract feature) aims.approach_is
            ∙ ap (λ (t : Point). marks_with (point_of (approach_of s middle d)) t retract feature) at_is
            ∙ ap (λ (r : Point). marks_with (point_of (approach_of s middle d)) (point_of (down_of s middle d depth)) r feature) retract_at
            ∙ same_behind part from (touching part s middle d feature) stop has
