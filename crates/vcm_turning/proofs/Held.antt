-- Each step that moves is taken with the chosen probe on.
use Rattle.std.proofs.Common.{◌≡◌, ◌≢◌, ℕ, zero, suc, Bool, true, false, List, [], ◌∷◌, ◌++◌, slice_get, Option, Some, None, refl, subst}
use Rattle.std.specs.Prelude.{◌&&◌, not}
use Rattle.std.specs.List.{AllByRecursion}
use Rattle.vcm_num.specs.declared.point.Point.{Point}
use Rattle.vcm_spec.specs.declared.stop.Stop.{Stop}
use Rattle.vcm_spec.specs.declared.stop.StopPlace.{StopPlace}
use Rattle.vcm_spec.specs.Stepping.{unless_stopped}
use Rattle.vcm_spec.specs.Workpiece.{Workpiece}
use Rattle.vcm_spec.specs.World.{Settings}
use Rattle.vcm_code.specs.Code.{CodeStatement}
use Rattle.vcm_code.specs.declared.code.Code.{Code}
use Rattle.vcm_way.specs.declared.task.Task.{Task}
use Rattle.vcm_way.specs.declared.task.Task.TheVariants.{Nowhere, Straight, Measure}
use Rattle.vcm_way.specs.Tasks.{task_of, marks_of}
use Rattle.vcm_way.specs.Ways.{reason}
use Rattle.vcm_probe_set.specs.Probes.{Probe}
use Rattle.vcm_turning.specs.declared.ended.NoProbe.{NoProbe}
use Rattle.vcm_turning.specs.Choosing.{value_of, is_held, tipped, part_by}
use Rattle.vcm_turning.specs.Turning.{Turned, is_motion, is_lost, stepped, taken, by_loss, unless_ended, turned_after}
use Rattle.vcm_turning.specs.Steps.{TurnedStep, step_between, steps_at, steps_from, turned_steps}
use Rattle.vcm_turning.specs.Laws.{IsByItsProbe, NothingMovesWithout, HasItsProbe, EachWayByItsProbe}

pub all_append : {X : Type 0} (P : X → Type 0) (xs ys : List X) → AllByRecursion P xs → AllByRecursion P ys → AllByRecursion P (xs ++ ys)
all_append P [] ys h k = k
all_append P (x ∷ xs) ys h k = (h.0, all_append P xs ys h.1 k)

all_weaken : {X : Type 0} (P Q : X → Type 0) → ((x : X) → P x → Q x) → (xs : List X) → AllByRecursion P xs → AllByRecursion Q xs
all_weaken P Q f [] h = h
all_weaken P Q f (x ∷ xs) h = (f x h.0, all_weaken P Q f xs h.1)

held_by : (m h : Bool) → (m && not h) ≡ false → m ≡ true → h ≡ true
held_by true true e f = refl
held_by true false e f = absurd cc
held_by false h e f = absurd cc

module _ (part : Workpiece) (ps : List Probe) (v : ℕ) (c : Code) where
  module _ (count : ℕ) (t : Turned) where
    abbrev P : TurnedStep → Type 0
    P = IsByItsProbe part ps v

    by_loss_held : (s : CodeStatement) (b : Bool) → is_lost part.bounds.home ps v t s.op ≡ b
        → AllByRecursion P (by_loss b [] (step_between ps v count t s (stepped part ps c t) (taken part ps v c t) ∷ []))
    by_loss_held s true e = tt
    by_loss_held s false e = (λ m. held_by (is_motion (task_of part.bounds.home t.state.world s.op)) (is_held ps t.on (value_of t.state.world v)) e m, tt)

    at_held : (o : Option CodeStatement) → AllByRecursion P (steps_at part ps v c count t o)
    at_held None = tt
    at_held (Some s) = by_loss_held s (is_lost part.bounds.home ps v t s.op) refl

    running_held : (o : Option StopPlace) → AllByRecursion P (unless_stopped o [] (steps_at part ps v c count t (slice_get c.statements t.state.next)))
    running_held (Some p) = tt
    running_held None = at_held (slice_get c.statements t.state.next)

    step_held : (o : Option NoProbe)
        → AllByRecursion P (unless_ended o [] (unless_stopped t.state.world.stop [] (steps_at part ps v c count t (slice_get c.statements t.state.next))))
    step_held (Some e) = tt
    step_held None = running_held t.state.world.stop

  pub each_held : (n : ℕ) → AllByRecursion (IsByItsProbe part ps v) (turned_steps part ps v c n)
  each_held zero = tt
  each_held (suc k) =
      all_append (IsByItsProbe part ps v) (turned_steps part ps v c k) (steps_from part ps v c (suc k) (turned_after part ps v c k)) (each_held k)
      (step_held (suc k) (turned_after part ps v c k) (turned_after part ps v c k).ended)

  -- ---- ways

  marks_move : (other : Workpiece) (p : Point) (set : Settings) (task : Task) (stop : Option Stop) → marks_of other p set task stop ≢ [] → is_motion task ≡ true
  marks_move other p set Nowhere stop h = absurd (h refl)
  marks_move other p set (Straight to) stop h = refl
  marks_move other p set (Measure m) stop h = refl

  -- another tip leaves home where it is
  same_home : (o : Option ℕ) → (tipped part o).bounds.home ≡ part.bounds.home
  same_home None = refl
  same_home (Some h) = refl

  home_is : (on : Option ℕ) → (part_by part ps on).bounds.home ≡ part.bounds.home
  home_is on = same_home _

  with_way : (s : TurnedStep) → IsByItsProbe part ps v s → HasItsProbe part ps v s
  with_way s h ways =
      let moved = marks_move (part_by part ps s.on) s.passage.before.position s.passage.before.settings
      (task_of (part_by part ps s.on).bounds.home s.passage.before s.passage.statement.op) (reason s.passage.after.stop) ways in
      h (subst (λ home. is_motion (task_of home s.passage.before s.passage.statement.op) ≡ true) (home_is s.on) moved)

  pub each_way : (n : ℕ) → AllByRecursion (HasItsProbe part ps v) (turned_steps part ps v c n)
  each_way n = all_weaken (IsByItsProbe part ps v) (HasItsProbe part ps v) with_way (turned_steps part ps v c n) (each_held n)

pub nothing_moves : NothingMovesWithout
nothing_moves part ps v c n = each_held part ps v c n

pub ways_by_probes : EachWayByItsProbe
ways_by_probes part ps v c n = each_way part ps v c n
