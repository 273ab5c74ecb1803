-- What the stop of a motion tells of it.
use Rattle.std.proofs.Common.{◌≡◌, ℕ, ℤ, Bool, true, false, Option, Some, None, refl, subst}
use Rattle.std.specs.Prelude.{unwrap_or, ◌&&◌}
use Rattle.vcm_num.specs.declared.axis.Axis.{Axis}
use Rattle.vcm_spec.specs.declared.feature.Touch.{Touch}
use Rattle.vcm_spec.specs.declared.workpiece.Hit.{Hit}
use Rattle.vcm_spec.specs.declared.stop.Stop.{Stop}
use Rattle.vcm_spec.specs.declared.stop.Stop.TheVariants.{Overflow, Travel, Collision, Missed}
use Rattle.vcm_spec.specs.declared.words.MovePhase.TheVariants.{Move, Approach, Search, Retract}
use Rattle.vcm_spec.specs.Workpiece.{Workpiece, is_within}
use Rattle.vcm_spec.specs.World.{Settings}
use Rattle.vcm_spec.specs.FirstContact.{contact, later_contact}
use Rattle.vcm_spec.specs.Touch.{centre_of, approach_of, end_of, down_of, back_of, touched_of}
use Rattle.vcm_spec.specs.FirstTouch.{free_of, free_move, first_inside, touch}
use Rattle.vcm_spec.specs.Outcome.{Outcome, Gives, ◌>>=◌, demand, found, fits_place, point_of}
use Rattle.vcm_way.specs.Steps.{EndsAs}

module _ (P : Option Stop → Type 0) (stop : Option Stop) (h : P stop) where
  -- a stop that the motion has not
  other : (why : Stop) → (P (Some why) → ⊥) → stop ≡ Some why → ⊥
  other why never e = never (subst P e h)

-- ---- a straight move

-- the aim lies within the limits where it stops so
abbrev pub HasMoved : Option Stop → Type 0
HasMoved None = Unit {0}
HasMoved (Some (Collision Move hit)) = Unit {0}
HasMoved (Some _) = ⊥

moved_by : (stop : Option Stop) (w : Bool) (o : Option Hit) → EndsAs (demand w (Travel Move) >>= (λ _. free_of Move o)) stop → HasMoved stop → w ≡ true
moved_by stop true o e h = refl
moved_by stop false o e h = absurd (other HasMoved stop h (Travel Move) (λ x. x) e)

pub aim_within : (part : Workpiece) (x y : ℕ → ℤ) (stop : Option Stop) → EndsAs (free_move Move part x y) stop → HasMoved stop → is_within part.bounds y ≡ true
aim_within part x y stop e h = moved_by stop (is_within part.bounds y) (contact part x y) e h

-- ---- a measurement

abbrev chain : Bool → Bool → Option Hit → Bool → Option ℕ → (ℕ → Bool) → (ℕ → Option Hit) → (ℕ → Touch) → Outcome Touch
chain fits approach hit end t back later made = do
  _ ← demand fits Overflow
  _ ← (demand approach (Travel Approach) >>= (λ _. free_of Approach hit))
  _ ← demand end (Travel Search)
  t ← found t Missed
  _ ← demand (back t) (Travel Retract)
  _ ← free_of Retract (later t)
  Gives (made t)

-- the approach point lies within the limits where it stops so
abbrev pub HasAimed : Option Stop → Type 0
HasAimed None = Unit {0}
HasAimed (Some (Collision Approach hit)) = Unit {0}
HasAimed (Some (Travel Search)) = Unit {0}
HasAimed (Some Missed) = Unit {0}
HasAimed (Some (Travel Retract)) = Unit {0}
HasAimed (Some (Collision Retract hit)) = Unit {0}
HasAimed (Some _) = ⊥

-- so does the end of the search where it stops so
abbrev pub HasSearched : Option Stop → Type 0
HasSearched None = Unit {0}
HasSearched (Some Missed) = Unit {0}
HasSearched (Some (Travel Retract)) = Unit {0}
HasSearched (Some (Collision Retract hit)) = Unit {0}
HasSearched (Some _) = ⊥

-- so does the retract point where it stops so
abbrev pub HasReturned : Option Stop → Type 0
HasReturned None = Unit {0}
HasReturned (Some (Collision Retract hit)) = Unit {0}
HasReturned (Some _) = ⊥

module _ (back : ℕ → Bool) (later : ℕ → Option Hit) (made : ℕ → Touch) (stop : Option Stop) where
  approach_by : (f a : Bool) (hit : Option Hit) (e : Bool) (t : Option ℕ) → EndsAs (chain f a hit e t back later made) stop → HasAimed stop → a ≡ true
  approach_by false a hit e t h p = absurd (other HasAimed stop p Overflow (λ x. x) h)
  approach_by true false hit e t h p = absurd (other HasAimed stop p (Travel Approach) (λ x. x) h)
  approach_by true true hit e t h p = refl

  fits_by : (f a : Bool) (hit : Option Hit) (e : Bool) (t : Option ℕ) → EndsAs (chain f a hit e t back later made) stop → HasAimed stop → f ≡ true
  fits_by false a hit e t h p = absurd (other HasAimed stop p Overflow (λ x. x) h)
  fits_by true a hit e t h p = refl

  end_by : (f a : Bool) (hit : Option Hit) (e : Bool) (t : Option ℕ) → EndsAs (chain f a hit e t back later made) stop → HasSearched stop → e ≡ true
  end_by false a hit e t h p = absurd (other HasSearched stop p Overflow (λ x. x) h)
  end_by true false hit e t h p = absurd (other HasSearched stop p (Travel Approach) (λ x. x) h)
  end_by true true (Some hit) e t h p = absurd (other HasSearched stop p (Collision Approach hit) (λ x. x) h)
  end_by true true None false t h p = absurd (other HasSearched stop p (Travel Search) (λ x. x) h)
  end_by true true None true t h p = refl

  back_by : (f a : Bool) (hit : Option Hit) (e : Bool) (t : Option ℕ) → EndsAs (chain f a hit e t back later made) stop → HasReturned stop → back (unwrap_or t 0) ≡ true
  back_by false a hit e t h p = absurd (other HasReturned stop p Overflow (λ x. x) h)
  back_by true false hit e t h p = absurd (other HasReturned stop p (Travel Approach) (λ x. x) h)
  back_by true true (Some hit) e t h p = absurd (other HasReturned stop p (Collision Approach hit) (λ x. x) h)
  back_by true true None false t h p = absurd (other HasReturned stop p (Travel Search) (λ x. x) h)
  back_by true true None true None h p = absurd (other HasReturned stop p Missed (λ x. x) h)
  back_by true true None true (Some t) h p = at (back t) refl h
    where
      at : (b : Bool) → back t ≡ b → EndsAs (demand b (Travel Retract) >>= (λ _. free_of Retract (later t) >>= (λ _. Gives (made t)))) stop → back t ≡ true
      at true q k = q
      at false q k = absurd (other HasReturned stop p (Travel Retract) (λ x. x) k)

module _ (part : Workpiece) (s : Settings) (from nominal : ℕ → ℤ) (d : Axis) (stop : Option Stop) (ends : EndsAs (touch part s from nominal d) stop) where
  abbrev centre : ℕ → ℤ
  centre = centre_of part nominal d

  abbrev made : ℕ → Touch
  made t = record { at = point_of (touched_of part s centre d t); retract = point_of (back_of s centre d t) }

  abbrev back : ℕ → Bool
  back t = is_within part.bounds (back_of s centre d t)

  abbrev later : ℕ → Option Hit
  later t = later_contact part (down_of s centre d t) (back_of s centre d t)

  chained : EndsAs (chain (fits_place (approach_of s centre d) && fits_place (end_of s centre d)) (is_within part.bounds (approach_of s centre d)) (contact part from (approach_of s centre d))
      (is_within part.bounds (end_of s centre d)) (first_inside part s centre d) back later made) stop
  unfolding touch
  chained = ends

  pub approach_within : HasAimed stop → is_within part.bounds (approach_of s centre d) ≡ true
  approach_within p = approach_by back later made stop _ _ _ _ _ chained p

  pub points_fit : HasAimed stop → (fits_place (approach_of s centre d) && fits_place (end_of s centre d)) ≡ true
  points_fit p = fits_by back later made stop _ _ _ _ _ chained p

  pub end_within : HasSearched stop → is_within part.bounds (end_of s centre d) ≡ true
  end_within p = end_by back later made stop _ _ _ _ _ chained p

  pub back_within : HasReturned stop → is_within part.bounds (back_of s centre d (unwrap_or (first_inside part s centre d) 0)) ≡ true
  back_within p = back_by back later made stop _ _ _ _ _ chained p
