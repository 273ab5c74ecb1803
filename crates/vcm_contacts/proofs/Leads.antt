-- A lead can be carried out.
use Rattle.std.proofs.Common.{◌≡◌, ◌≢◌, ℕ, ◌<◌, Bool, true, false, length, Option, Some, None, refl, ap, ◌∙◌}
use Rattle.std.specs.Prelude.{if◌then◌else◌, unwrap_or}
use Rattle.vcm_num.specs.declared.axis.Axis.{Axis}
use Rattle.vcm_num.specs.declared.point.Point.{Point}
use Rattle.vcm_num.specs.Point.{coordinate}
use Rattle.vcm_spec.specs.declared.feature.Feature.{Feature}
use Rattle.vcm_spec.specs.declared.stop.Stop.{Stop}
use Rattle.vcm_spec.specs.declared.stop.Stop.TheVariants.{Collision}
use Rattle.vcm_spec.specs.Effect.{measured_direction}
use Rattle.vcm_spec.specs.Frame.{to_part}
use Rattle.vcm_spec.specs.declared.words.MovePhase.{MovePhase}
use Rattle.vcm_spec.specs.declared.words.MovePhase.TheVariants.{Move, Approach, Search, Retract}
use Rattle.vcm_spec.specs.declared.workpiece.Hit.{Hit}
use Rattle.vcm_spec.specs.declared.simple.Simple.TheVariants.{PtMeas}
use Rattle.vcm_spec.specs.FirstTouch.{first_inside}
use Rattle.vcm_spec.specs.Outcome.{Outcome, Gives, Stops as Halts, ◌>>=◌, point_at, point_of}
use Rattle.vcm_spec.specs.Setup.{Tables}
use Rattle.vcm_spec.specs.Touch.{centre_of, approach_of, back_of}
use Rattle.vcm_spec.specs.Workpiece.{Workpiece, IsValid, is_blocked, is_within}
use Rattle.vcm_spec.specs.World.{World}
use Rattle.vcm_code.specs.Code.{Op}
use Rattle.vcm_code.specs.declared.op.Op.TheVariants.{Plain}
use Rattle.vcm_code.specs.Checks.{OpFits}
use Rattle.vcm_code.specs.Valid.{IsLast}
use Rattle.vcm_probe.proofs.Nearness.{within_is_near}
use Rattle.vcm_marks.specs.declared.mark.Touched.{Touched}
use Rattle.vcm_way.specs.declared.task.Task.{Task}
use Rattle.vcm_way.specs.declared.task.Task.TheVariants.{Nowhere, Straight, Measure}
use Rattle.vcm_way.specs.Steps.{TaskEnds}
use Rattle.vcm_way.specs.Tasks.{task_of, marks_of}
use Rattle.vcm_way.proofs.Ends.{aim_within, approach_within, back_within}
use Rattle.vcm_contacts.specs.declared.contact.Lead.TheVariants.{On, Again}
use Rattle.vcm_contacts.specs.Leading.{feature_at, back_with, measured, aim_in, touched_in, lead_to, lead_by, lead, IsThere, IsSound}

-- a measured feature whose part coordinates don't fit
pub lost_at : (w : World) (i : ℕ) (given : Option Axis) (touched : Point) (d : Axis) (why : Stop) → measured_direction w i given ≡ Gives d
    → point_at (to_part w.frame (coordinate touched)) ≡ Halts why → feature_at w i given touched ≡ Halts why
lost_at w i given touched d why e f =
    ap (λ (o : Outcome Axis). o >>= (λ d. point_at (to_part w.frame (coordinate touched)) >>= (λ at. Gives (record { at = at; toward = d })))) e
    ∙ ap (λ (o : Outcome Point). o >>= (λ at. Gives (record { at = at; toward = d }))) f

-- a statement that sends the probe somewhere isn't the last
not_last : (home : Point) (w : World) (op : Op) → task_of home w op ≢ Nowhere → IsLast op → ⊥
not_last home w (Plain what) h l = l
not_last home w _ h l = h refl

module _ (part : Workpiece) (w : World) (tables : Tables) (count : ℕ) where
  back_sound : (op : Op) (aim : Point) (i : ℕ) → IsThere part aim → i < length tables.features → (IsLast op → ⊥) → (o : Outcome Feature)
      → IsSound part tables op (back_with aim i o)
  back_sound op aim i there below last (Gives f) = (there, (below, last))
  back_sound op aim i there below last (Halts why) = tt

  measured_sound : (op : Op) (touched : Touched) (aim : Point) → IsThere part aim → (IsLast op → ⊥) → OpFits tables count op
      → IsSound part tables op (measured w op touched aim)
  measured_sound (Plain (PtMeas i x y z given)) touched aim there last fits =
      back_sound (Plain (PtMeas i x y z given)) aim i there fits.0 last (feature_at w i given touched.at)
  measured_sound _ touched aim there last fits = tt

  toward_sound : (op : Op) (aim : Point) → IsThere part aim → (IsLast op → ⊥) → (b : Bool) → IsSound part tables op (if b then On aim else Again aim)
  toward_sound op aim there last true = (there, last)
  toward_sound op aim there last false = there

  to_sound : (op : Op) (aim : Point) → IsThere part aim → (IsLast op → ⊥) → OpFits tables count op → (touched : Option Touched)
      → IsSound part tables op (lead_to part w op aim touched)
  to_sound op aim there last fits (Some touched) = measured_sound op touched aim there last fits
  to_sound op aim there last fits None = toward_sound op aim there last (is_blocked part (coordinate aim))

  module _ (valid : IsValid part) (op : Op) (fits : OpFits tables count op) (hit : Hit) where
    abbrev led_by : MovePhase → Task → Type 0
    led_by phase task = IsSound part tables op (lead_by part w op phase hit (aim_in (marks_of part w.position w.settings task (Some (Collision phase hit))))
        (touched_in (marks_of part w.position w.settings task (Some (Collision phase hit)))))

    there : (p : Point) → is_within part.bounds (coordinate p) ≡ true → IsThere part p
    there p h = record { within = h; near = within_is_near part valid p h }

    task_sound : (phase : MovePhase) (task : Task) → task_of part.bounds.home w op ≡ task → TaskEnds part w.position w.settings task (Some (Collision phase hit)) → led_by phase task
    task_sound phase Nowhere e ends = tt
    task_sound Move (Straight to) e ends =
        to_sound op to (there to (aim_within part (coordinate w.position) (coordinate to) (Some (Collision Move hit)) ends tt)) (not_last part.bounds.home w op (λ n. cc (n, e))) fits None
    task_sound Approach (Straight to) e ends = tt
    task_sound Search (Straight to) e ends = tt
    task_sound Retract (Straight to) e ends = tt
    task_sound Move (Measure m) e ends = tt
    task_sound Approach (Measure m) e ends =
        to_sound op (point_of (approach_of w.settings (centre_of part (coordinate m.nominal) m.toward) m.toward))
        (there (point_of (approach_of w.settings (centre_of part (coordinate m.nominal) m.toward) m.toward))
        (approach_within part w.settings (coordinate w.position) (coordinate m.nominal) m.toward (Some (Collision Approach hit)) ends tt))
        (not_last part.bounds.home w op (λ n. cc (n, e))) fits None
    task_sound Search (Measure m) e ends = tt
    task_sound Retract (Measure m) e ends =
        let centre = centre_of part (coordinate m.nominal) m.toward in
        let back = point_of (back_of w.settings centre m.toward (unwrap_or (first_inside part w.settings centre m.toward) 0)) in
        to_sound op back (there back (back_within part w.settings (coordinate w.position) (coordinate m.nominal) m.toward (Some (Collision Retract hit)) ends tt))
        (not_last part.bounds.home w op (λ n. cc (n, e))) fits (touched_in (marks_of part w.position w.settings (Measure m) (Some (Collision Retract hit))))

-- the lead of a statement that met a block can be carried out
pub lead_sound : (part : Workpiece) → IsValid part → (w : World) (tables : Tables) (op : Op) → ((count : ℕ) × OpFits tables count op) → (phase : MovePhase) (hit : Hit)
    → TaskEnds part w.position w.settings (task_of part.bounds.home w op) (Some (Collision phase hit)) → IsSound part tables op (lead part w op phase hit)
lead_sound part valid w tables op fits phase hit ends = task_sound part w tables fits.0 valid op fits.1 hit phase (task_of part.bounds.home w op) refl ends
