-- A step of a run, and what it adds to the way.
use Rattle.std.proofs.Common.{◌≡◌, ℕ, true, List, [], ◌∷◌, ◌++◌, length, slice_get, Option, Result, Ok, Err, sym, ap, ◌∙◌, subst}
use Rattle.std.specs.Prelude.{OnOk, flat_map}
use Rattle.std.proofs.lemmas.List.{flat_map_more}
use Rattle.vcm_num.specs.declared.point.Point.{Point}
use Rattle.vcm_num.specs.Point.{is_near}
use Rattle.vcm_spec.specs.declared.stop.Stop.{Stop}
use Rattle.vcm_spec.specs.Setup.{Tables}
use Rattle.vcm_spec.specs.Stepping.{unless_stopped}
use Rattle.vcm_spec.specs.Workpiece.{Workpiece, IsValid}
use Rattle.vcm_spec.specs.World.{Settings, World}
use Rattle.vcm_code.specs.Code.{CodeStatement}
use Rattle.vcm_code.specs.declared.code.Code.{Code}
use Rattle.vcm_code.specs.Checks.{OpFits}
use Rattle.vcm_code.specs.Valid.{IsValid as IsValidCode}
use Rattle.vcm_code.proofs.Checked.{fits_at}
use Rattle.vcm_code.specs.CodeTable.{do_op, fetched, code_step}
use Rattle.vcm_machine.specs.Running.{Running, setup}
use Rattle.vcm_probe.proofs.Nearness.{within_is_near}
use Rattle.vcm_marks.specs.declared.mark.Mark.{Mark}
use Rattle.vcm_marks.specs.declared.mark.PlacedMark.{PlacedMark}
use Rattle.vcm_steps.specs.Passages.{Passage, passage, IsNext, WasNext}
use Rattle.vcm_way.specs.declared.step.Before.{Before}
use Rattle.vcm_way.specs.declared.task.Task.{Task}
use Rattle.vcm_way.specs.Tasks.{task_of, marks_of}
use Rattle.vcm_way.specs.Ways.{reason, Kept, placed, step_marks, placed_marks}
use Rattle.vcm_way.specs.Steps.{IsBefore, TaskEnds}
use Rattle.vcm_way.specs.Keeping.{StandsFor}
use Rattle.vcm_way.specs.inner.Added.{Keeps}
use Rattle.vcm_way.proofs.Sent.{task_ends}

-- ---- before a step

module _ (fits : Workpiece → Code → Type 0) (tables : Tables) (w : World) (s : CodeStatement) (is : IsNext fits tables w s) where
  -- the statement fits its tables
  pub next_fits : IsValidCode is.machine.code → (count : ℕ) × OpFits tables count s.op
  next_fits valid =
      let ss = is.machine.code.statements in
      (length ss, subst (λ t. OpFits t (length ss) s.op) is.tables_are (fits_at is.machine.code.tables (length ss) ss is.machine.state.next s valid.fit is.stands))

  -- the probe is near
  pub next_near : IsValid is.machine.part → is_near w.position ≡ true
  next_near valid =
      subst (λ (x : World). is_near x.position ≡ true) is.world_is (within_is_near is.machine.part valid is.machine.state.world.position is.rests.within)

-- ---- a step

module _ (part : Workpiece) (fits : Workpiece → Code → Type 0) (b : Before) (s : CodeStatement) (after : World)
    (was : WasNext fits (λ w. IsBefore part.bounds.home w s b) s after) (at_part : was.is_next.machine.part ≡ part) where
  abbrev m : Running
  m = was.is_next.machine

  step_is : code_step (setup m) m.code.statements m.state ≡ do_op (setup m) s.op s.line m.state.world m.state.next m.state.pairs
  step_is =
      ap (λ o. unless_stopped o m.state (fetched (setup m) (slice_get m.code.statements m.state.next) m.state.world m.state.next m.state.pairs)) was.is_next.running
      ∙ ap (λ o. fetched (setup m) o m.state.world m.state.next m.state.pairs) was.is_next.stands

  abbrev Ends : Workpiece → World → Option Stop → Type 0
  Ends p w stop = TaskEnds p w.position w.settings (task_of p.bounds.home w s.op) stop

  -- its stop is that of its task, if that has one
  pub step_ends : TaskEnds part b.position b.settings b.task (reason after.stop)
  step_ends =
      let first = task_ends (setup m) m.state.world s.line m.state.next m.state.pairs s.op in
      let stop : reason (do_op (setup m) s.op s.line m.state.world m.state.next m.state.pairs).world.stop ≡ reason after.stop =
      sym (ap (λ k. reason k.world.stop) step_is) ∙ ap (λ (w : World). reason w.stop) was.after_is in
      let there : Ends part was.before (reason after.stop) =
      subst (λ p. Ends p was.before (reason after.stop)) at_part
      (subst (λ w. Ends m.part w (reason after.stop)) was.is_next.world_is (subst (Ends m.part m.state.world) stop first)) in
      let is = was.known_before in
      subst (λ (p : Point). TaskEnds part p b.settings b.task (reason after.stop)) (sym is.position)
      (subst (λ (t : Settings). TaskEnds part was.before.position t b.task (reason after.stop)) (sym is.settings)
      (subst (λ (t : Task). TaskEnds part was.before.position was.before.settings t (reason after.stop)) (sym is.task) there))

-- its marks, by what was known before it
pub marks_are : (part : Workpiece) (b : Before) (s : CodeStatement) (w after : World) → IsBefore part.bounds.home w s b → (count number next : ℕ)
    → marks_of part b.position b.settings b.task (reason after.stop) ≡ step_marks part (passage count number s w after next)
marks_are part b s w after is count number next =
    ap (λ (p : Point). marks_of part p b.settings b.task (reason after.stop)) is.position
    ∙ ap (λ (t : Settings). marks_of part w.position t b.task (reason after.stop)) is.settings
    ∙ ap (λ (t : Task). marks_of part w.position w.settings t (reason after.stop)) is.task

-- the way with the marks of one more step
pub one_step : (part : Workpiece) (b : Before) (s : CodeStatement) (w after : World) → IsBefore part.bounds.home w s b → (count number next : ℕ) (ms : List Mark)
    → ms ≡ marks_of part b.position b.settings b.task (reason after.stop) → (from old new : Kept) (ps : List Passage)
    → ((whole : List PlacedMark) → StandsFor old whole → StandsFor new (whole ++ placed count number s.line ms))
    → Keeps from old (flat_map (placed_marks part) ps) → Keeps from new (flat_map (placed_marks part) (ps ++ passage count number s w after next ∷ []))
one_step part b s w after is count number next ms e from old new ps step h start =
    let p = passage count number s w after next in
    let marks : placed count number s.line ms ≡ placed_marks part p = ap (placed count number s.line) (e ∙ marks_are part b s w after is count number next) in
    subst (StandsFor new) (ap (λ l. flat_map (placed_marks part) ps ++ l) marks ∙ flat_map_more (placed_marks part) [] ps p) (step (flat_map (placed_marks part) ps) (h start))

-- what follows of what a call that succeeded ensures
pub on_ok_then : {A B : Type 0} (r : Result A B) (P Q : Type 0) → (P → Q) → OnOk r P → OnOk r Q
on_ok_then (Ok x) P Q f h = f h
on_ok_then (Err x) P Q f h = h
