-- How deep a measurement touches, as it is computed and as it is meant.
use Rattle.std.specs.Prelude.{◌<◌, unwrap_or}
use Rattle.std.proofs.Common.{◌≡◌, ℕ, ℤ, ◌+◌, Bool, true, false, Option, Some, None, sym, ap, ◌∙◌, subst, arith, inl, inr}
use Rattle.std.proofs.lemmas.Bool.{cases_order}
use Rattle.vcm_num.specs.declared.axis.Axis.{Axis}
use Rattle.vcm_spec.specs.declared.feature.Touch.{Touch}
use Rattle.vcm_spec.specs.Workpiece.{Workpiece, IsValid, is_blocked}
use Rattle.vcm_spec.specs.World.{Settings}
use Rattle.vcm_spec.specs.Touch.{centre_of, down_of, past, IsTouched, IsTouch}
use Rattle.vcm_spec.specs.FirstTouch.{first_inside, touch}
use Rattle.vcm_spec.specs.Outcome.{Gives}
use Rattle.vcm_spec.proofs.Touches.{IsSearchOf, search_is, touch_is}
use Rattle.vcm_way.specs.Marks.{touching, touching_at}

module _ (part : Workpiece) (s : Settings) (from centre : ℕ → ℤ) (d : Axis) (t : ℕ) (is : IsTouched part s from centre d t) where
  abbrev blocked : ℕ → Bool
  blocked u = is_blocked part (down_of s centre d u)

  finds : (o : Option ℕ) → IsSearchOf blocked 0 (s.approach + past s + 1) o → o ≡ Some t
  finds (Some u) h = elim (cases_order u t) [
    | inl e ↦ ap Some e
    | inr (inl l) ↦ absurd (is.first u l h.passes)
    | inr (inr l) ↦ (let fails = h.before t (omega arith) l in let met = is.met in let both : true ≡ false = sym met ∙ fails in cc)
  ]
  finds None h =
      let within = is.reached in
      let fails = h t (omega arith) (omega (arith, within)) in
      let met = is.met in
      let both : true ≡ false = sym met ∙ fails in cc

  -- the depth that is computed is the depth of the touch
  pub depth_is : first_inside part s centre d ≡ Some t
  depth_is = finds (first_inside part s centre d) (search_is blocked 0 (s.approach + past s + 1))

  pub points_are : (feature : ℕ) → touching part s centre d feature ≡ touching_at part s centre d feature t
  points_are feature = ap (λ o. touching_at part s centre d feature (unwrap_or o 0)) depth_is

-- the retract point of a touch
pub retracts_to : (part : Workpiece) → IsValid part → (s : Settings) (from nominal : ℕ → ℤ) (d : Axis) → 0 < s.retract → (feature : ℕ) (t : Touch) → touch part s from nominal d ≡ Gives t
    → t.retract ≡ (touching part s (centre_of part nominal d) d feature).retract
retracts_to part valid s from nominal d back feature t e =
    let h = subst (IsTouch part s from nominal d) e (touch_is part valid s from nominal d back) in
    h.3 ∙ sym (ap (λ x. x.retract) (points_are part s from (centre_of part nominal d) d h.0 h.1.touched feature))
