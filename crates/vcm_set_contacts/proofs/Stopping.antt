-- A statement that is next and has a stop, and how it leads on.
use Rattle.std.proofs.Common.{◌≡◌, ℕ, true, length, slice_get, Option, Some, None, sym, ap, ◌∙◌, subst}
use Rattle.std.specs.Prelude.{IsTrue, option_and_then}
use Rattle.vcm_num.specs.declared.point.Point.{Point}
use Rattle.vcm_num.specs.Point.{coordinate}
use Rattle.vcm_spec.specs.declared.feature.Feature.{Feature}
use Rattle.vcm_spec.specs.declared.stop.Stop.{Stop}
use Rattle.vcm_spec.specs.declared.stop.StopPlace.{StopPlace}
use Rattle.vcm_spec.specs.Setup.{Setup, Tables, setup_of}
use Rattle.vcm_spec.specs.Stepping.{unless_stopped}
use Rattle.vcm_spec.specs.Workpiece.{Workpiece, is_within}
use Rattle.vcm_spec.specs.World.{World}
use Rattle.vcm_code.specs.Checks.{OpFits}
use Rattle.vcm_code.specs.Code.{CodeStatement}
use Rattle.vcm_code.specs.Valid.{IsValid}
use Rattle.vcm_code.specs.declared.code.Code.{Code}
use Rattle.vcm_code.specs.CodeTable.{CodeState, do_op, fetched}
use Rattle.vcm_code.proofs.Checked.{fits_at}
use Rattle.vcm_way.specs.Steps.{TaskEnds}
use Rattle.vcm_way.specs.Tasks.{task_of}
use Rattle.vcm_way.specs.Ways.{reason}
use Rattle.vcm_way.proofs.Sent.{task_ends}
use Rattle.vcm_turning.specs.Choosing.{probe_on, tipped}
use Rattle.vcm_turning.specs.Machine.{Turner, StandsAt, placed, with_actual, stepped_of}
use Rattle.vcm_set_contacts.specs.inner.Standing.{part_of, IsStopping}

-- the statement that is next, as the code read it
pub stands_there : (m : Turner) (c : Code) (number : ℕ) (s : CodeStatement) → m.code ≡ c → number ≡ m.state.next → slice_get c.statements number ≡ Some s → StandsAt m s
stands_there m c number s e f g = ap (λ (x : Code). slice_get x.statements m.state.next) e ∙ ap (slice_get c.statements) (sym f) ∙ g

-- it fits the tables
pub fits_there : (m : Turner) (c : Code) (tables : Tables) (s : CodeStatement) → IsValid c → m.code ≡ c → tables ≡ m.code.tables → StandsAt m s
    → (count : ℕ) × OpFits tables count s.op
fits_there m c tables s valid e f stands =
    let there : slice_get c.statements m.state.next ≡ Some s = sym (ap (λ (x : Code). slice_get x.statements m.state.next) e) ∙ stands in (
      length c.statements,
      subst (λ (t : Tables). OpFits t (length c.statements) s.op) (sym (f ∙ ap (λ (x : Code). x.tables) e))
          (fits_at c.tables (length c.statements) c.statements m.state.next s valid.fit there),
    )

module _ (m : Turner) (s : CodeStatement) (running : m.state.world.stop ≡ None) (stands : StandsAt m s) where
  abbrev S : Setup
  S = setup_of (part_of m) m.code.tables

  abbrev done : CodeState
  done = do_op S s.op s.line m.state.world m.state.next m.state.pairs

  step_is : stepped_of m ≡ done
  step_is =
      ap (λ (o : Option StopPlace). unless_stopped o m.state (fetched S (slice_get m.code.statements m.state.next) m.state.world m.state.next m.state.pairs)) running
      ∙ ap (λ (o : Option CodeStatement). fetched S o m.state.world m.state.next m.state.pairs) stands

  -- its stop is that of its motion, if that has one
  pub ends_there : (why : Stop) → IsStopping m why s → (part : Workpiece) (w : World) → part ≡ part_of m → w ≡ m.state.world
      → TaskEnds part w.position w.settings (task_of part.bounds.home w s.op) (Some why)
  ends_there why h part w e f =
      let stop : reason done.world.stop ≡ Some why = sym (ap (λ (k : CodeState). reason k.world.stop) step_is) ∙ ap (λ (k : CodeState). reason k.world.stop) h.stops in
      subst (λ (p : Workpiece). TaskEnds p w.position w.settings (task_of p.bounds.home w s.op) (Some why)) (sym e)
      (subst (λ (x : World). TaskEnds (part_of m) x.position x.settings (task_of (part_of m).bounds.home x s.op) (Some why)) (sym f)
      (subst (λ o. TaskEnds (part_of m) m.state.world.position m.state.world.settings (task_of (part_of m).bounds.home m.state.world s.op) o) stop
      (task_ends S m.state.world s.line m.state.next m.state.pairs s.op)))

-- it is next wherever the tip is put, and however a feature is measured
pub stands_placed : (m new : Turner) (p : Point) (s : CodeStatement) → new ≡ placed m p → StandsAt m s → StandsAt new s
stands_placed m new p s e h = subst (λ (x : Turner). StandsAt x s) (sym e) h

pub stands_measured : (m new : Turner) (i : ℕ) (f : Feature) (s : CodeStatement) → new ≡ with_actual m i f → StandsAt m s → StandsAt new s
stands_measured m new i f s e h = subst (λ (x : Turner). StandsAt x s) (sym e) h

-- the limits are the same with any tip
tipped_within : (part : Workpiece) (tip : Option ℕ) (p : Point) → IsTrue (is_within (tipped part tip).bounds (coordinate p)) → is_within part.bounds (coordinate p) ≡ true
tipped_within part None p h = h
tipped_within part (Some t) p h = h

pub within_there : (m : Turner) (p : Point) → IsTrue (is_within (part_of m).bounds (coordinate p)) → is_within m.part.bounds (coordinate p) ≡ true
within_there m p h = tipped_within m.part (option_and_then (λ q. q.tip) (probe_on m.probes m.on)) p h
