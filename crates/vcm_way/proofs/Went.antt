-- What a step of a run does with the probe, and the marks that it so adds.
use Rattle.std.specs.Prelude.{slice_set, ◌++◌, length, nat_lt, unsigned_abs, unwrap_or}
use Rattle.std.proofs.Common.{◌≡◌, ℕ, ℤ, ◌+◌, Bool, true, false, List, [], ◌∷◌, Option, Some, None, slice_get, refl, sym, ◌∙◌, subst}
use Rattle.vcm_num.specs.declared.axis.Axis.{Axis}
use Rattle.vcm_num.specs.declared.point.Point.{Point}
use Rattle.vcm_num.specs.Point.{coordinate}
use Rattle.vcm_spec.specs.declared.feature.Touch.{Touch}
use Rattle.vcm_spec.specs.declared.stop.Stop.{Stop}
use Rattle.vcm_spec.specs.declared.stop.Stop.TheVariants.{Overflow, ZeroStep, Undefined, BadSetting, OutputFull}
use Rattle.vcm_spec.specs.declared.stop.Missing.TheVariants as missing
use Rattle.vcm_spec.specs.Texts.{feature_line}
use Rattle.vcm_spec.specs.declared.stop.StopPlace.{StopPlace}
use Rattle.vcm_spec.specs.declared.words.MovePhase.TheVariants.{Move}
use Rattle.vcm_spec.specs.Control.{test_in, with_next_index, is_zero, is_past}
use Rattle.vcm_spec.specs.Frame.{direction, to_part}
use Rattle.vcm_spec.specs.FirstTouch.{free_move, touch}
use Rattle.vcm_spec.specs.Outcome.{Outcome, Gives, Stops, ◌>>=◌, demand, found, fits_place, point_at, point_of}
use Rattle.vcm_spec.specs.Setup.{Setup}
use Rattle.vcm_spec.specs.Simple.{Simple, evaluated}
use Rattle.vcm_spec.specs.declared.simple.Simple.TheVariants.{Goto, GoHome, Assign, Feat, PtMeas, SnSet, Trans, Rotate, Recall, Obtain, Output, Text}
use Rattle.vcm_spec.specs.Table.{if_true}
use Rattle.vcm_spec.specs.Touch.{centre_of}
use Rattle.vcm_spec.specs.Value.{items_value}
use Rattle.vcm_spec.specs.Workpiece.{Workpiece}
use Rattle.vcm_spec.specs.Effect.{effect, carried_out, value_in, with_frame, with_line, machine_point, measured_direction, feature_in, at_index, is_allowed, with_setting, word_of}
use Rattle.vcm_spec.specs.World.{World, stopped, with_variable}
use Rattle.vcm_code.specs.declared.pair.Pair.{Pair}
use Rattle.vcm_code.specs.Code.{Op}
use Rattle.vcm_code.specs.declared.op.Op.TheVariants.{Plain, If, Else, EndIf, Do, EndDo, Label, JumpTo, Meas, EndMes, Select, Case, EndCas, DftCas, EndSel, EndFil}
use Rattle.vcm_code.specs.CodeTable.{CodeState, pair, code_state, or_halt, turn, do_op}
use Rattle.vcm_marks.specs.declared.mark.Mark.{Mark}
use Rattle.vcm_way.specs.declared.task.Task.{Task}
use Rattle.vcm_way.specs.declared.task.Measuring.{Measuring}
use Rattle.vcm_way.specs.declared.task.Task.TheVariants.{Nowhere, Straight, Measure}
use Rattle.vcm_way.specs.Marks.{marks_of_move, marks_of_touch, touching, Touching}
use Rattle.vcm_way.specs.Tasks.{sent, or_nowhere, task_of, marks_of}
use Rattle.vcm_way.specs.Ways.{reason}

-- the points of a measurement in a state
abbrev pub points_of : Workpiece → World → Measuring → Touching
points_of part w m = touching part w.settings (centre_of part (coordinate m.nominal) m.toward) m.toward m.feature

-- what a step does in a state: these are its marks, and this is the state behind it. The probe stays where it is; or it goes straight to a point, or is
-- stopped on the way there; or it measures, or is stopped in that.
pub data Went (part : Workpiece) (w : World) : List Mark → World → Type 0 where
  stays : {after : World} → after.position ≡ w.position → Went part w [] after
  moves : {after : World} (q : Point) (u : Unit {0}) → free_move Move part (coordinate w.position) (coordinate q) ≡ Gives u → after.position ≡ q
      → Went part w (marks_of_move part w.position q None) after
  halts : {after : World} (q : Point) (why : Stop) → free_move Move part (coordinate w.position) (coordinate q) ≡ Stops why → after.position ≡ w.position → reason after.stop ≡ Some why
      → Went part w (marks_of_move part w.position q (Some why)) after
  touches : {after : World} (m : Measuring) (t : Touch) → touch part w.settings (coordinate w.position) (coordinate m.nominal) m.toward ≡ Gives t → after.position ≡ t.retract
      → Went part w (marks_of_touch part w.position (points_of part w m) None) after
  misses : {after : World} (m : Measuring) (why : Stop) → touch part w.settings (coordinate w.position) (coordinate m.nominal) m.toward ≡ Stops why → after.position ≡ w.position
      → reason after.stop ≡ Some why → Went part w (marks_of_touch part w.position (points_of part w m) (Some why)) after

module _ (setup : Setup) (w : World) (running : w.stop ≡ None) (line n : ℕ) (ps : List Pair) where
  abbrev part : Workpiece
  part = setup.part

  abbrev home : Point
  home = part.bounds.home

  abbrev after_of : Outcome World → World
  after_of o = (or_halt o w n line ps (λ w'. code_state w' (n + 1) ps)).world

  abbrev marks_by : Task → Option StopPlace → List Mark
  marks_by task stop = marks_of part w.position w.settings task (reason stop)

  abbrev Goes : Task → World → Type 0
  Goes task after = Went part w (marks_by task after.stop) after

  -- the same marks where there is no stop
  unstopped : (task : Task) (after : World) → after.stop ≡ w.stop → Went part w (marks_by task None) after → Goes task after
  unstopped task after e h = subst (λ o. Went part w (marks_by task o) after) (sym (e ∙ running)) h

  still : {A : Type 0} (o : Outcome A) (f : A → World) → ((x : A) → (f x).position ≡ w.position) → Goes Nowhere (after_of (o >>= (λ x. Gives (f x))))
  still (Gives x) f h = stays (h x)
  still (Stops why) f h = stays refl

  moves_by : (q : Point) (o : Outcome (Unit {0})) → free_move Move part (coordinate w.position) (coordinate q) ≡ o
      → Goes (Straight q) (after_of (o >>= (λ u. Gives (record w { position = q }))))
  moves_by q (Gives u) e = unstopped (Straight q) (record w { position = q }) refl (moves q u e refl)
  moves_by q (Stops why) e = halts q why e refl refl

  abbrev recorded : ℕ → Axis → Touch → Outcome World
  recorded i d touched = do
    at ← point_at (to_part w.frame (coordinate touched.at))
    Gives (record w { position = touched.retract; actual = slice_set w.actual i (Some (record { at = at; toward = d })) })

  records_by : (m : Measuring) (i : ℕ) (d : Axis) (t : Touch) → touch part w.settings (coordinate w.position) (coordinate m.nominal) m.toward ≡ Gives t → (fits : Bool)
      → Goes (Measure m) (after_of ((demand fits Overflow >>= (λ _. Gives (point_of (to_part w.frame (coordinate t.at)))))
      >>= (λ at. Gives (record w { position = t.retract; actual = slice_set w.actual i (Some (record { at = at; toward = d })) }))))
  records_by m i d t e true =
      unstopped (Measure m) (record w { position = t.retract; actual = slice_set w.actual i (Some (record { at = point_of (to_part w.frame (coordinate t.at)); toward = d })) }) refl
      (touches m t e refl)
  records_by m i d t e false = stays refl

  touches_by : (m : Measuring) (i : ℕ) (d : Axis) (o : Outcome Touch) → touch part w.settings (coordinate w.position) (coordinate m.nominal) m.toward ≡ o
      → Goes (Measure m) (after_of (o >>= recorded i d))
  touches_by m i d (Gives t) e = records_by m i d t e (fits_place (to_part w.frame (coordinate t.at)))
  touches_by m i d (Stops why) e = misses m why e refl refl

  prints : {A : Type 0} (o : Outcome A) (line_of : A → List ℕ) → Goes Nowhere (after_of (o >>= (λ x. with_line w (line_of x))))
  prints (Gives x) line_of = still (demand (nat_lt (length w.lines) 100000) OutputFull) (λ _. record w { lines = w.lines ++ line_of x ∷ [] }) (λ _. refl)
  prints (Stops why) line_of = stays refl

  simple_by : (o : Outcome (Simple ℤ)) → Goes (or_nowhere (o >>= sent home w)) (after_of (o >>= carried_out setup w))
  unfolding carried_out with_variable
  simple_by (Stops why) = stays refl
  simple_by (Gives (Goto x y z)) = by (machine_point w x y z)
    where
      by : (m : Outcome Point) → Goes (or_nowhere (m >>= (λ t. Gives (Straight t))))
          (after_of (m >>= (λ t. free_move Move part (coordinate w.position) (coordinate t) >>= (λ u. Gives (record w { position = t })))))
      by (Stops why) = stays refl
      by (Gives t) = moves_by t (free_move Move part (coordinate w.position) (coordinate t)) refl
  simple_by (Gives GoHome) = moves_by home (free_move Move part (coordinate w.position) (coordinate home)) refl
  simple_by (Gives (PtMeas i x y z given)) = by (measured_direction w i given) (machine_point w x y z)
    where
      by : (m : Outcome Axis) (o : Outcome Point)
          → Goes (or_nowhere (m >>= (λ d. o >>= (λ nominal. Gives (Measure (record { nominal = nominal; toward = direction w.frame.turn d; feature = i }))))))
          (after_of (m >>= (λ d. o >>= (λ nominal. touch part w.settings (coordinate w.position) (coordinate nominal) (direction w.frame.turn d) >>= recorded i d))))
      by (Stops why) o = stays refl
      by (Gives d) (Stops why) = stays refl
      by (Gives d) (Gives nominal) =
          touches_by (record { nominal = nominal; toward = direction w.frame.turn d; feature = i }) i d
          (touch part w.settings (coordinate w.position) (coordinate nominal) (direction w.frame.turn d)) refl
  simple_by (Gives (Assign v x)) = stays refl
  simple_by (Gives (Feat i x y z d)) = stays refl
  simple_by (Gives (SnSet which z)) =
      still (demand (is_allowed which z) BadSetting) (λ _. record w { settings = with_setting w.settings which (unsigned_abs z) }) (λ _. refl)
  simple_by (Gives (Trans i x y z)) = still (machine_point w x y z) (λ origin. with_frame w i (record (w.frame) { origin = origin })) (λ _. refl)
  simple_by (Gives (Rotate i axis quarters)) = stays refl
  simple_by (Gives (Recall i)) = still (found (at_index w.saved i) (Undefined (missing.Frame i))) (λ f. record w { frame = f }) (λ _. refl)
  simple_by (Gives (Obtain v source i word)) = still (feature_in w source i) (λ f. with_variable w v (word_of f word)) (λ _. refl)
  simple_by (Gives (Output source i)) =
      prints (feature_in w source i) (λ f. feature_line source (unwrap_or (slice_get setup.tables.features i) []) f)
  simple_by (Gives (Text bytes)) = prints (Gives bytes) (λ line. line)

  -- ---- statements that have no motion

  abbrev IsStill : CodeState → Type 0
  IsStill m = m.world.position ≡ w.position

  halted : {A : Type 0} (o : Outcome A) (go : A → CodeState) → ((x : A) → IsStill (go x)) → IsStill (or_halt o w n line ps go)
  halted (Gives x) go h = h x
  halted (Stops why) go h = refl

  chosen : (b : Bool) (x y : CodeState) → IsStill x → IsStill y → IsStill (if_true b x y)
  chosen true x y h k = h
  chosen false x y h k = k

  turned_by : (v target : ℕ) (p : Pair) (o : Outcome ℤ)
      → IsStill (or_halt (o >>= (λ z. Gives (with_variable w v z))) w n line ps (λ w'. if_true (is_past w' v p.limit p.increment) (code_state w' (n + 1) ps) (code_state w' target ps)))
  unfolding with_variable
  turned_by v target p (Gives z) = chosen (is_past (with_variable w v z) v p.limit p.increment) _ _ refl refl
  turned_by v target p (Stops why) = refl

  turn_still : (o : Option Pair) (v target : ℕ) → IsStill (turn o w n line v target ps)
  unfolding with_next_index
  turn_still None v target = refl
  turn_still (Some p) v target = chosen (is_zero p.increment) _ _ refl (turned_by v target p _)

  do_still : (p v target : ℕ) (a b c : ℤ)
      → IsStill (if_true (is_zero c) (code_state (stopped w ZeroStep n line) n ps)
      (if_true (is_past (with_variable w v a) v b c) (code_state (with_variable w v a) target (slice_set ps p (pair b c))) (code_state (with_variable w v a) (n + 1) (slice_set ps p (pair b c)))))
  unfolding with_variable
  do_still p v target a b c = chosen (is_zero c) _ _ refl (chosen (is_past (with_variable w v a) v b c) _ _ refl refl)

  -- what a statement does
  pub op_goes : (op : Op) → Goes (task_of home w op) (do_op setup op line w n ps).world
  unfolding effect
  op_goes (Plain what) = simple_by (evaluated (value_in items_value w) what)
  op_goes (If test target) = stays (halted (test_in items_value w test) _ (λ t. chosen t _ _ refl refl))
  op_goes (Else target) = stays refl
  op_goes EndIf = stays refl
  op_goes (Do v p initial limit increment target) =
      stays (halted (value_in items_value w initial) _ (λ a. halted (value_in items_value w limit) _ (λ b. halted (value_in items_value w increment) _ (λ c. do_still p v target a b c))))
  op_goes (EndDo v p target) = stays (turn_still (slice_get ps p) v target)
  op_goes Label = stays refl
  op_goes (JumpTo target) = stays refl
  op_goes (Meas feature) = stays refl
  op_goes EndMes = stays refl
  op_goes (Select value branches target) = stays (halted (value_in items_value w value) _ (λ z. refl))
  op_goes Case = stays refl
  op_goes (EndCas target) = stays refl
  op_goes DftCas = stays refl
  op_goes EndSel = stays refl
  op_goes EndFil = stays refl
