-- Where statements send the probe, and how their tasks end.
use Rattle.std.specs.Prelude.{slice_set}
use Rattle.std.proofs.Common.{◌≡◌, ℕ, ℤ, ◌+◌, List, Option, Some, refl, sym, ap, ◌∙◌}
use Rattle.vcm_num.specs.declared.axis.Axis.{Axis}
use Rattle.vcm_num.specs.declared.point.Point.{Point}
use Rattle.vcm_num.specs.Point.{coordinate}
use Rattle.vcm_spec.specs.declared.expression.Item.{Item}
use Rattle.vcm_spec.specs.declared.feature.Touch.{Touch}
use Rattle.vcm_spec.specs.declared.stop.Stop.{Stop}
use Rattle.vcm_spec.specs.declared.words.MovePhase.TheVariants.{Move}
use Rattle.vcm_spec.specs.Frame.{direction, to_part}
use Rattle.vcm_spec.specs.FirstTouch.{free_move, touch}
use Rattle.vcm_spec.specs.Outcome.{Outcome, Gives, Stops, ◌>>=◌, calculated, point_at}
use Rattle.vcm_spec.specs.Setup.{Setup}
use Rattle.vcm_spec.specs.Simple.{Simple, evaluated}
use Rattle.vcm_spec.specs.declared.simple.Simple.TheVariants.{Goto, GoHome, PtMeas}
use Rattle.vcm_spec.specs.Value.{items_value}
use Rattle.vcm_spec.specs.Effect.{effect, carried_out, value_in, machine_point, measured_direction}
use Rattle.vcm_spec.specs.World.{World}
use Rattle.vcm_code.specs.declared.pair.Pair.{Pair}
use Rattle.vcm_code.specs.Code.{Op}
use Rattle.vcm_code.specs.declared.op.Op.TheVariants.{Plain, If, Else, EndIf, Do, EndDo, Label, JumpTo, Meas, EndMes, Select, Case, EndCas, DftCas, EndSel, EndFil}
use Rattle.vcm_code.specs.CodeTable.{code_state, or_halt, do_op}
use Rattle.vcm_way.specs.declared.task.Task.{Task}
use Rattle.vcm_way.specs.declared.task.Task.TheVariants.{Nowhere, Straight, Measure}
use Rattle.vcm_way.specs.Tasks.{sent, or_nowhere, task_of}
use Rattle.vcm_way.specs.Ways.{reason}
use Rattle.vcm_way.specs.Steps.{TaskEnds}
use Rattle.vcm_way.specs.inner.Told.{point_in}

abbrev three : {A : Type 0} → Outcome ℤ → Outcome ℤ → Outcome ℤ → (ℤ → ℤ → ℤ → Outcome A) → Outcome A
three o p q then_do = o >>= (λ x. p >>= (λ y. q >>= (λ z. then_do x y z)))

-- ---- the machine point of three expressions

module _ (w : World) (a b c : List Item) where
  abbrev value : List Item → Outcome ℤ
  value e = calculated (items_value w.variables e)

  pub first_fault : (why : Stop) → value a ≡ Stops why → point_in w a b c ≡ Stops why
  first_fault why e = ap (λ o. three o (value b) (value c) (machine_point w)) e

  pub second_fault : (x : ℤ) (why : Stop) → value a ≡ Gives x → value b ≡ Stops why → point_in w a b c ≡ Stops why
  second_fault x why e f = ap (λ o. three o (value b) (value c) (machine_point w)) e ∙ ap (λ o. three (Gives x) o (value c) (machine_point w)) f

  pub third_fault : (x y : ℤ) (why : Stop) → value a ≡ Gives x → value b ≡ Gives y → value c ≡ Stops why → point_in w a b c ≡ Stops why
  third_fault x y why e f g =
      ap (λ o. three o (value b) (value c) (machine_point w)) e ∙ ap (λ o. three (Gives x) o (value c) (machine_point w)) f
      ∙ ap (λ o. three (Gives x) (Gives y) o (machine_point w)) g

  pub all_given : (x y z : ℤ) → value a ≡ Gives x → value b ≡ Gives y → value c ≡ Gives z → point_in w a b c ≡ machine_point w x y z
  all_given x y z e f g =
      ap (λ o. three o (value b) (value c) (machine_point w)) e ∙ ap (λ o. three (Gives x) o (value c) (machine_point w)) f
      ∙ ap (λ o. three (Gives x) (Gives y) o (machine_point w)) g

  -- ---- GOTO

  abbrev straight : Outcome Point → Task
  straight o = or_nowhere (o >>= (λ t. Gives (Straight t)))

  goes_by : (home : Point) (o p q : Outcome ℤ)
      → or_nowhere (three o p q (λ x y z. Gives (Goto x y z)) >>= sent home w) ≡ straight (three o p q (machine_point w))
  goes_by home (Gives x) (Gives y) (Gives z) = refl
  goes_by home (Gives x) (Gives y) (Stops why) = refl
  goes_by home (Gives x) (Stops why) q = refl
  goes_by home (Stops why) p q = refl

  pub goto_is : (home : Point) → task_of home w (Plain (Goto a b c)) ≡ straight (point_in w a b c)
  unfolding value_in
  goto_is home = goes_by home (value a) (value b) (value c)

  pub goto_there : (home t : Point) → point_in w a b c ≡ Gives t → Straight t ≡ task_of home w (Plain (Goto a b c))
  goto_there home t e = sym (goto_is home ∙ ap straight e)

  pub goto_nowhere : (home : Point) (why : Stop) → point_in w a b c ≡ Stops why → Nowhere ≡ task_of home w (Plain (Goto a b c))
  goto_nowhere home why e = sym (goto_is home ∙ ap straight e)

  -- ---- PTMEAS

  module _ (i : ℕ) (given : Option Axis) where
    abbrev measuring : Axis → Point → Task
    measuring d nominal = Measure (record { nominal = nominal; toward = direction w.frame.turn d; feature = i })

    abbrev measured : Outcome Axis → Outcome Point → Task
    measured m o = or_nowhere (m >>= (λ d. o >>= (λ nominal. Gives (measuring d nominal))))

    measures_by : (home : Point) (o p q : Outcome ℤ) (m : Outcome Axis) → measured_direction w i given ≡ m
        → or_nowhere (three o p q (λ x y z. Gives (PtMeas i x y z given)) >>= sent home w) ≡ measured m (three o p q (machine_point w))
    measures_by home (Gives x) (Gives y) (Gives z) m e = ap (λ n. measured n (machine_point w x y z)) e
    measures_by home (Gives x) (Gives y) (Stops why) (Gives d) e = refl
    measures_by home (Gives x) (Gives y) (Stops why) (Stops whence) e = refl
    measures_by home (Gives x) (Stops why) q (Gives d) e = refl
    measures_by home (Gives x) (Stops why) q (Stops whence) e = refl
    measures_by home (Stops why) p q (Gives d) e = refl
    measures_by home (Stops why) p q (Stops whence) e = refl

    pub measure_is : (home : Point) → task_of home w (Plain (PtMeas i a b c given)) ≡ measured (measured_direction w i given) (point_in w a b c)
    unfolding value_in
    measure_is home = measures_by home (value a) (value b) (value c) (measured_direction w i given) refl

    pub measure_there : (home : Point) (d : Axis) (nominal : Point) → measured_direction w i given ≡ Gives d → point_in w a b c ≡ Gives nominal
        → measuring d nominal ≡ task_of home w (Plain (PtMeas i a b c given))
    measure_there home d nominal e f = sym (measure_is home ∙ ap (λ m. measured m (point_in w a b c)) e ∙ ap (measured (Gives d)) f)

    pub measure_lost : (home : Point) (d : Axis) (why : Stop) → measured_direction w i given ≡ Gives d → point_in w a b c ≡ Stops why
        → Nowhere ≡ task_of home w (Plain (PtMeas i a b c given))
    measure_lost home d why e f = sym (measure_is home ∙ ap (λ m. measured m (point_in w a b c)) e ∙ ap (measured (Gives d)) f)

-- ---- how a task ends

module _ (setup : Setup) (w : World) (line n : ℕ) (ps : List Pair) where
  abbrev home : Point
  home = setup.part.bounds.home

  abbrev stop_of : Outcome World → Option Stop
  stop_of o = reason (or_halt o w n line ps (λ w'. code_state w' (n + 1) ps)).world.stop

  abbrev Ends : Task → Option Stop → Type 0
  Ends task stop = TaskEnds setup.part w.position w.settings task stop

  moves_by : (target : Point) (o : Outcome (Unit {0})) (after : Unit {0} → Outcome World) → free_move Move setup.part (coordinate w.position) (coordinate target) ≡ o
      → Ends (Straight target) (stop_of (o >>= after))
  moves_by target (Gives u) after e = rw e tt
  moves_by target (Stops why) after e = rw e refl

  touches_by : (nominal : Point) (toward : Axis) (i : ℕ) (o : Outcome Touch) (after : Touch → Outcome World) → touch setup.part w.settings (coordinate w.position) (coordinate nominal) toward ≡ o
      → Ends (Measure (record { nominal = nominal; toward = toward; feature = i })) (stop_of (o >>= after))
  touches_by nominal toward i (Gives t) after e = rw e tt
  touches_by nominal toward i (Stops why) after e = rw e refl

  simple_by : (o : Outcome (Simple ℤ)) → Ends (or_nowhere (o >>= sent home w)) (stop_of (o >>= carried_out setup w))
  unfolding carried_out
  simple_by (Stops why) = tt
  simple_by (Gives (Goto x y z)) = by (machine_point w x y z)
    where
      by : (m : Outcome Point) → Ends (or_nowhere (m >>= (λ t. Gives (Straight t))))
          (stop_of (m >>= (λ t. free_move Move setup.part (coordinate w.position) (coordinate t) >>= (λ u. Gives (record w { position = t })))))
      by (Stops why) = tt
      by (Gives t) = moves_by t (free_move Move setup.part (coordinate w.position) (coordinate t)) (λ u. Gives (record w { position = t })) refl
  simple_by (Gives GoHome) = moves_by home (free_move Move setup.part (coordinate w.position) (coordinate home)) (λ u. Gives (record w { position = home })) refl
  simple_by (Gives (PtMeas i x y z given)) = by (measured_direction w i given) (machine_point w x y z)
    where
      recorded : Axis → Touch → Outcome World
      recorded d touched = do
        at ← point_at (to_part w.frame (coordinate touched.at))
        Gives (record w { position = touched.retract; actual = slice_set w.actual i (Some (record { at = at; toward = d })) })

      by : (m : Outcome Axis) (o : Outcome Point)
          → Ends (or_nowhere (m >>= (λ d. o >>= (λ nominal. Gives (Measure (record { nominal = nominal; toward = direction w.frame.turn d; feature = i }))))))
          (stop_of (m >>= (λ d. o >>= (λ nominal. touch setup.part w.settings (coordinate w.position) (coordinate nominal) (direction w.frame.turn d) >>= recorded d))))
      by (Stops why) o = tt
      by (Gives d) (Stops why) = tt
      by (Gives d) (Gives nominal) =
          touches_by nominal (direction w.frame.turn d) i (touch setup.part w.settings (coordinate w.position) (coordinate nominal) (direction w.frame.turn d)) (recorded d) refl
  simple_by (Gives _) = tt

  -- the stop after a statement is that of its task, if that has one
  pub task_ends : (op : Op) → Ends (task_of home w op) (reason (do_op setup op line w n ps).world.stop)
  unfolding effect
  task_ends (Plain what) = simple_by (evaluated (value_in items_value w) what)
  task_ends (If test target) = tt
  task_ends (Else target) = tt
  task_ends EndIf = tt
  task_ends (Do v p initial limit increment target) = tt
  task_ends (EndDo v p target) = tt
  task_ends Label = tt
  task_ends (JumpTo target) = tt
  task_ends (Meas feature) = tt
  task_ends EndMes = tt
  task_ends (Select value branches target) = tt
  task_ends Case = tt
  task_ends (EndCas target) = tt
  task_ends DftCas = tt
  task_ends EndSel = tt
  task_ends EndFil = tt
