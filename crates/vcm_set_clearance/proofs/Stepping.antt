-- A step of a run that turns its head: how its motion ends, and what is known behind the turn.
use Rattle.std.proofs.Common.{◌≡◌, ℕ, zero, suc, ◌<◌, ℤ, pos, Bool, true, false, List, [], ◌∷◌, length, slice_get, Option, Some, None, refl, sym, ap, ◌∙◌, subst, arith}
use Rattle.std.specs.Prelude.{IfSome, IsTrue, option_and_then, map, slice_index_or, if◌then◌else◌}
use Rattle.std.specs.List.{position}
use Rattle.std.specs.Ordering.{int_eq}
use Rattle.std.proofs.lemmas.List.Quantifiers.{position-Some}
use Rattle.vcm_num.specs.declared.point.Point.{Point}
use Rattle.vcm_spec.specs.declared.stop.Stop.{Stop}
use Rattle.vcm_spec.specs.declared.stop.StopPlace.{StopPlace}
use Rattle.vcm_spec.specs.Setup.{Setup, Tables, setup_of}
use Rattle.vcm_spec.specs.Stepping.{unless_stopped}
use Rattle.vcm_spec.specs.Workpiece.{Workpiece}
use Rattle.vcm_spec.specs.World.{Settings, World}
use Rattle.vcm_code.specs.Code.{CodeStatement}
use Rattle.vcm_code.specs.Checks.{OpFits}
use Rattle.vcm_code.specs.Valid.{IsValid as IsValidCode}
use Rattle.vcm_code.proofs.Checked.{fits_at}
use Rattle.vcm_code.specs.declared.code.Code.{Code}
use Rattle.vcm_code.specs.CodeTable.{CodeState, do_op, fetched, code_step}
use Rattle.vcm_way.specs.declared.step.Before.{Before}
use Rattle.vcm_way.specs.declared.task.Task.{Task}
use Rattle.vcm_marks.specs.declared.mark.Moment.{Moment}
use Rattle.vcm_way.specs.Gone.{placed_at, ways_in}
use Rattle.vcm_way.specs.Tasks.{task_of, marks_of}
use Rattle.vcm_way.specs.Ways.{reason}
use Rattle.vcm_way.specs.Steps.{IsBefore, TaskEnds}
use Rattle.vcm_way.proofs.Sent.{task_ends}
use Rattle.vcm_way.proofs.Stepped.{marks_are}
use Rattle.vcm_probe_set.specs.Probes.{Probe}
use Rattle.vcm_turning.specs.declared.turn.Turn.{Turn}
use Rattle.vcm_turning.specs.Choosing.{probe_on, has_number, is_held, place_of, put_at, value_of, tipped, part_by}
use Rattle.vcm_turning.specs.Turning.{Turned, put_on, put_behind, stepped}
use Rattle.vcm_turning.specs.Machine.{Turner, turned_of, HangsNear}
use Rattle.vcm_turning.specs.Following.{IsNextTurned, WasNextTurned, told_step}
use Rattle.vcm_set_clearance.specs.Events.{ways_with, ways_at}
use Rattle.vcm_set_clearance.specs.inner.Gathering.{ways_done}

-- ---- the workpiece with a tip of its own has the same home

tipped_home : (part : Workpiece) (tip : Option ℕ) → (tipped part tip).bounds.home ≡ part.bounds.home
tipped_home part None = refl
tipped_home part (Some h) = refl

pub same_home : (part : Workpiece) (ps : List Probe) (on : Option ℕ) → (part_by part ps on).bounds.home ≡ part.bounds.home
same_home part ps on = tipped_home part (option_and_then (λ p. p.tip) (probe_on ps on))

-- the workpiece of a place, among those with the tips of all probes
pub own_at : (part : Workpiece) (ps : List Probe) (i : ℕ) (d : Workpiece) → i < length ps → slice_index_or (map (λ p. tipped part p.tip) ps) i d ≡ part_by part ps (Some i)
own_at part [] i d l = absurd (omega arith)
own_at part (p ∷ ps) zero d l = refl
own_at part (p ∷ ps) (suc i) d l = own_at part ps i d (omega arith)

-- ---- a turn

stop_put : (ps : List Probe) (m : CodeState) (on put : Option ℕ) → (put_on ps m on put).state.world.stop ≡ m.world.stop
stop_put ps m on None = refl
stop_put ps m on (Some i) = refl

on_put : (ps : List Probe) (m : CodeState) (on put : Option ℕ) (i : ℕ) → put ≡ Some i → (put_on ps m on put).on ≡ Some i
on_put ps m on None i e = absurd (let no : None ≡ Some i = e in cc)
on_put ps m on (Some j) i e = e

-- a place that is put on is one of the probes'
placed_within : (ps : List Probe) (z : ℤ) (i : ℕ) → place_of ps z ≡ Some i → i < length ps
placed_within [] z i e = absurd (let no : None ≡ Some i = e in cc)
placed_within (p ∷ ps) z i e = (position-Some (λ q. int_eq (pos q.number) z) (p ∷ ps) i p e).0

put_within : (ps : List Probe) (on : Option ℕ) (z : ℤ) (i : ℕ) → put_at ps on z ≡ Some i → i < length ps
put_within ps on z i e = by (is_held ps on z) e
  where
    by : (t : Bool) → (if t then None else place_of ps z) ≡ Some i → i < length ps
    by true e = absurd (let no : None ≡ Some i = e in cc)
    by false e = placed_within ps z i e

behind_within : (ps : List Probe) (v : ℕ) (m : CodeState) (on : Option ℕ) (i : ℕ) → put_behind ps v m on ≡ Some i → i < length ps
behind_within ps v m on i e = by m.world.stop e
  where
    by : (o : Option StopPlace) → unless_stopped o None (put_at ps on (value_of m.world v)) ≡ Some i → i < length ps
    by (Some p) e = absurd (let no : None ≡ Some i = e in cc)
    by None e = put_within ps on (value_of m.world v) i e

-- ---- before a step

module _ (fits : Workpiece → List Probe → Code → Type 0) (tables : Tables) (w : World) (on : Option ℕ) (s : CodeStatement) (is : IsNextTurned fits tables w on s) where
  -- the statement fits its tables
  pub turned_fits : IsValidCode is.machine.code → (count : ℕ) × OpFits tables count s.op
  turned_fits valid =
      let ss = is.machine.code.statements in
      (length ss, subst (λ t. OpFits t (length ss) s.op) is.tables_are (fits_at is.machine.code.tables (length ss) ss is.machine.state.next s valid.fit is.stands))

-- ---- a step

module _ (fits : Workpiece → List Probe → Code → Type 0) (b : Before) (on : Option ℕ) (s : CodeStatement) (turn : Turn) (after : World) (part : Workpiece) (ps : List Probe)
    (was : WasNextTurned fits (λ w. IsBefore part.bounds.home w s b) on s turn after) (at_part : was.is_next.machine.part ≡ part) (at_probes : was.is_next.machine.probes ≡ ps) where
  abbrev m : Turner
  m = was.is_next.machine

  abbrev own : Workpiece
  own = part_by m.part m.probes m.on

  abbrev S : Setup
  S = setup_of own m.code.tables

  step_is : stepped m.part m.probes m.code (turned_of m) ≡ do_op S s.op s.line m.state.world m.state.next m.state.pairs
  step_is =
      ap (λ o. unless_stopped o m.state (fetched S (slice_get m.code.statements m.state.next) m.state.world m.state.next m.state.pairs)) was.is_next.running
      ∙ ap (λ o. fetched S o m.state.world m.state.next m.state.pairs) was.is_next.stands

  abbrev behind : CodeState
  behind = stepped m.part m.probes m.code (turned_of m)

  stop_is : reason (do_op S s.op s.line m.state.world m.state.next m.state.pairs).world.stop ≡ reason after.stop
  stop_is =
      sym (ap (λ (k : CodeState). reason k.world.stop) step_is)
      ∙ sym (ap reason (stop_put m.probes behind m.on (put_behind m.probes m.variable behind m.on)))
      ∙ ap (λ (t : Turned). reason t.state.world.stop) was.turned.taken
      ∙ ap (λ (w : World). reason w.stop) was.after_is

  abbrev Ends : Workpiece → Point → World → Type 0
  Ends p home w = TaskEnds p w.position w.settings (task_of home w s.op) (reason after.stop)

  own_is : own ≡ part_by part ps on
  own_is =
      ap (λ p. part_by p m.probes m.on) at_part ∙ ap (λ qs. part_by part qs m.on) at_probes ∙ ap (λ (o : Option ℕ). part_by part ps o) was.is_next.on_is

  -- its stop is that of its task, if that has one
  pub turned_ends : TaskEnds (part_by part ps on) b.position b.settings b.task (reason after.stop)
  turned_ends =
      let first = task_ends S m.state.world s.line m.state.next m.state.pairs s.op in
      let stopped : Ends own own.bounds.home m.state.world =
      subst (λ o. TaskEnds own m.state.world.position m.state.world.settings (task_of own.bounds.home m.state.world s.op) o) stop_is first in
      let home : own.bounds.home ≡ part.bounds.home = same_home m.part m.probes m.on ∙ ap (λ (p : Workpiece). p.bounds.home) at_part in
      let there : Ends (part_by part ps on) part.bounds.home was.before =
      subst (λ p. Ends p part.bounds.home was.before) own_is
      (subst (λ h. Ends own h was.before) home (subst (λ (w : World). Ends own own.bounds.home w) was.is_next.world_is stopped)) in
      let is = was.known_before in
      subst (λ (p : Point). TaskEnds (part_by part ps on) p b.settings b.task (reason after.stop)) (sym is.position)
      (subst (λ (t : Settings). TaskEnds (part_by part ps on) was.before.position t b.task (reason after.stop)) (sym is.settings)
      (subst (λ (t : Task). TaskEnds (part_by part ps on) was.before.position was.before.settings t (reason after.stop)) (sym is.task) there))

  -- the probe that is put on is there, and the machine hangs near with it
  pub put_there : IfSome turn.put (λ i. i < length ps)
  put_there = by turn.put refl
    where
      by : (o : Option ℕ) → turn.put ≡ o → IfSome o (λ i. i < length ps)
      by None e = tt
      by (Some i) e = subst (λ (qs : List Probe). i < length qs) at_probes (behind_within m.probes m.variable behind m.on i (sym was.turned.put ∙ e))

  pub put_hangs : (stands : Point) → stands ≡ after.position → IfSome turn.put (λ i. HangsNear (probe_on ps (Some i)) stands)
  put_hangs stands at = by turn.put refl
    where
      new_on : (i : ℕ) → turn.put ≡ Some i → was.new.on ≡ Some i
      new_on i e = sym (ap (λ (t : Turned). t.on) was.turned.taken) ∙ on_put m.probes behind m.on (put_behind m.probes m.variable behind m.on) i (sym was.turned.put ∙ e)

      by : (o : Option ℕ) → turn.put ≡ o → IfSome o (λ i. HangsNear (probe_on ps (Some i)) stands)
      by None e = tt
      by (Some i) e =
          let place : was.new.state.world.position ≡ stands = ap (λ (w : World). w.position) was.after_is ∙ sym at in
          let probes : was.new.probes ≡ ps = was.turned.probes_are ∙ at_probes in
          subst (λ (a : Point). HangsNear (probe_on ps (Some i)) a) place
          (subst (λ (o : Option ℕ). HangsNear (probe_on ps o) was.new.state.world.position) (new_on i e)
          (subst (λ (qs : List Probe). HangsNear (probe_on qs was.new.on) was.new.state.world.position) probes was.hangs))

-- ---- what is told of a step

-- the ways of its task are those of the step
pub ways_are : (part : Workpiece) (ps : List Probe) (first : Bool) (b : Before) (s : CodeStatement) (w after : World) → IsBefore part.bounds.home w s b
    → (count number next : ℕ) (turn : Turn) (o : Option Stop) → o ≡ reason after.stop → (on held : Option ℕ)
    → ways_done part ps first (record { step = count; number = number; line = s.line }) b o on ≡ ways_at part ps first (told_step count number s w after next held turn) on
ways_are part ps first b s w after looked count number next turn o e None held = refl
ways_are part ps first b s w after looked count number next turn o e (Some i) held =
    let own = part_by part ps (Some i) in
    let own_looked : IsBefore own.bounds.home w s b = subst (λ h. IsBefore h w s b) (sym (same_home part ps (Some i))) looked in
    let place : Moment = record { step = count; number = number; line = s.line } in
    ap (λ ms. ways_with i first (placed_at place (ways_in own ms)))
    (ap (marks_of own b.position b.settings b.task) e ∙ marks_are own b s w after own_looked count number next)
