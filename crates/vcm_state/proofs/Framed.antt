-- What statements do to the frames of the machine.
use Rattle.std.proofs.Common.{◌≡◌, ◌∙◌, ℕ, ℤ, Some, sym}
use Rattle.std.specs.Prelude.{slice_set}
use Rattle.vcm_num.specs.Point.{point, coordinate}
use Rattle.vcm_spec.specs.declared.stop.Stop.{Stop}
use Rattle.vcm_spec.specs.Frame.{Frame, to_machine}
use Rattle.vcm_spec.specs.Setup.{Setup}
use Rattle.vcm_spec.specs.World.{World}
use Rattle.vcm_spec.specs.Outcome.{Outcome, Gives, Stops, ◌>>=◌, point_at}
use Rattle.vcm_spec.specs.declared.simple.Simple.TheVariants.{Trans}
use Rattle.vcm_spec.specs.Effect.{carried_out, with_frame}
use Rattle.vcm_spec.specs.Frame.{shifted_frame}
use Rattle.vcm_state.proofs.Moves.{gives_on, stops_on, in_turn}

module _ (setup : Setup) (w : World) (i : ℕ) (x y z : ℤ) where
  abbrev saved_then : Frame → Outcome World
  saved_then f = Gives (with_frame w i f)

  shifts : carried_out setup w (Trans i x y z) ≡ shifted_frame w.frame (coordinate (point x y z)) >>= saved_then
  unfolding carried_out
  shifts = sym (in_turn (point_at (to_machine w.frame (coordinate (point x y z)))) (λ o. Gives (record (w.frame) { origin = o })) saved_then)

  pub trans_stops : (why : Stop) → shifted_frame w.frame (coordinate (point x y z)) ≡ Stops why → carried_out setup w (Trans i x y z) ≡ Stops why
  trans_stops why e = shifts ∙ stops_on _ why saved_then e

  pub trans_goes : (f : Frame) → shifted_frame w.frame (coordinate (point x y z)) ≡ Gives f
      → carried_out setup w (Trans i x y z) ≡ Gives (record w { frame = f; saved = slice_set w.saved i (Some f) })
  trans_goes f e = shifts ∙ gives_on _ f saved_then e
