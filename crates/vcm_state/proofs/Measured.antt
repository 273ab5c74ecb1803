-- What a measurement does to the state of the machine.
use Rattle.std.proofs.Common.{◌≡◌, ◌∙◌, ℕ, ℤ, Option, Some}
use Rattle.std.specs.Prelude.{slice_set}
use Rattle.vcm_num.specs.declared.axis.Axis.{Axis}
use Rattle.vcm_num.specs.declared.point.Point.{Point}
use Rattle.vcm_num.specs.Point.{coordinate}
use Rattle.vcm_spec.specs.declared.feature.Touch.{Touch}
use Rattle.vcm_spec.specs.declared.stop.Stop.{Stop}
use Rattle.vcm_spec.specs.Frame.{direction, to_part}
use Rattle.vcm_spec.specs.FirstTouch.{touch}
use Rattle.vcm_spec.specs.Setup.{Setup}
use Rattle.vcm_spec.specs.World.{World}
use Rattle.vcm_spec.specs.Outcome.{Outcome, Gives, Stops, ◌>>=◌, point_at}
use Rattle.vcm_spec.specs.declared.simple.Simple.TheVariants.{PtMeas}
use Rattle.vcm_spec.specs.Effect.{carried_out, machine_point, measured_direction}
use Rattle.vcm_state.proofs.Moves.{gives_on, stops_on}

module _ (setup : Setup) (w : World) (i : ℕ) (x y z : ℤ) (given : Option Axis) where
  abbrev recorded : Axis → Touch → Point → Outcome World
  recorded d t p = Gives (record w { position = t.retract; actual = slice_set w.actual i (Some (record { at = p; toward = d })) })

  abbrev touched_then : Axis → Touch → Outcome World
  touched_then d t = point_at (to_part w.frame (coordinate t.at)) >>= recorded d t

  abbrev touches : Axis → Point → Outcome Touch
  touches d nominal = touch setup.part w.settings (coordinate w.position) (coordinate nominal) (direction w.frame.turn d)

  abbrev measured_then : Axis → Outcome World
  measured_then d = machine_point w x y z >>= (λ nominal. touches d nominal >>= touched_then d)

  pub undeclared : (why : Stop) → measured_direction w i given ≡ Stops why → carried_out setup w (PtMeas i x y z given) ≡ Stops why
  unfolding carried_out
  undeclared why e = stops_on _ why measured_then e

  module _ (d : Axis) (hd : measured_direction w i given ≡ Gives d) where
    pub lost : (why : Stop) → machine_point w x y z ≡ Stops why → carried_out setup w (PtMeas i x y z given) ≡ Stops why
    unfolding carried_out
    lost why e = gives_on _ d measured_then hd ∙ stops_on _ why (λ nominal. touches d nominal >>= touched_then d) e

    module _ (nominal : Point) (hn : machine_point w x y z ≡ Gives nominal) where
      pub untouched : (why : Stop) → touches d nominal ≡ Stops why → carried_out setup w (PtMeas i x y z given) ≡ Stops why
      unfolding carried_out
      untouched why e = gives_on _ d measured_then hd ∙ gives_on _ nominal (λ n. touches d n >>= touched_then d) hn ∙ stops_on _ why (touched_then d) e

      module _ (t : Touch) (ht : touches d nominal ≡ Gives t) where
        on_touch : carried_out setup w (PtMeas i x y z given) ≡ touched_then d t
        unfolding carried_out
        on_touch = gives_on _ d measured_then hd ∙ gives_on _ nominal (λ n. touches d n >>= touched_then d) hn ∙ gives_on _ t (touched_then d) ht

        pub too_far : (why : Stop) → point_at (to_part w.frame (coordinate t.at)) ≡ Stops why → carried_out setup w (PtMeas i x y z given) ≡ Stops why
        too_far why e = on_touch ∙ stops_on _ why (recorded d t) e

        pub measured : (p : Point) → point_at (to_part w.frame (coordinate t.at)) ≡ Gives p
            → carried_out setup w (PtMeas i x y z given) ≡ Gives (record w { position = t.retract; actual = slice_set w.actual i (Some (record { at = p; toward = d })) })
        measured p e = on_touch ∙ gives_on _ p (recorded d t) e
