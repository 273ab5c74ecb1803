-- The ways of a step lie near 0, so that exact fractions of them fit.
use Rattle.std.proofs.Common.{◌≡◌, ℕ, ℤ, ◌+◌, ◌≤◌, Bool, true, List, ◌∷◌, ◌++◌, Option, Some, None, refl, subst, arith}
use Rattle.std.specs.Prelude.{option_to_list, unwrap_or}
use Rattle.std.specs.List.{AllByRecursion}
use Rattle.std.proofs.lemmas.Bool.{and_parts}
use Rattle.vcm_num.specs.declared.point.Point.{Point}
use Rattle.vcm_num.specs.Axis.{opposite}
use Rattle.vcm_num.specs.Point.{coordinate, is_near}
use Rattle.vcm_spec.specs.declared.stop.Stop.{Stop}
use Rattle.vcm_spec.specs.declared.stop.Stop.TheVariants.{Travel, Collision, Missed}
use Rattle.vcm_spec.specs.declared.words.MovePhase.TheVariants.{Move, Approach, Search, Retract}
use Rattle.vcm_spec.specs.FirstTouch.{free_move, first_inside, touch}
use Rattle.vcm_spec.specs.Touch.{centre_of, down_of, past}
use Rattle.vcm_spec.specs.Workpiece.{Workpiece, IsValid, is_blocked}
use Rattle.vcm_spec.specs.World.{Settings}
use Rattle.vcm_spec.proofs.Touches.{IsSearchOf, search_is}
use Rattle.vcm_probe.specs.Aims.{AreAimed}
use Rattle.vcm_probe.proofs.Descent.{end_back, touch_is_near}
use Rattle.vcm_probe.proofs.Nearness.{within_is_near}
use Rattle.vcm_marks.specs.declared.mark.Mark.{Mark}
use Rattle.vcm_way.specs.declared.task.Measuring.{Measuring}
use Rattle.vcm_way.specs.declared.task.Task.{Task}
use Rattle.vcm_way.specs.declared.task.Task.TheVariants.{Nowhere, Straight, Measure}
use Rattle.vcm_way.specs.Gone.{Gone, first_way, ways_in}
use Rattle.vcm_way.specs.Marks.{Touching, touching, marks_of_move, marks_of_touch}
use Rattle.vcm_way.specs.Seen.{IsNearWay}
use Rattle.vcm_way.specs.Steps.{EndsAs, TaskEnds}
use Rattle.vcm_way.specs.Tasks.{marks_of}
use Rattle.vcm_way.proofs.Ends.{HasMoved, HasAimed, HasSearched, HasReturned, aim_within, points_fit, approach_within, end_within, back_within}

-- what is near of all ways among marks is so of those behind the first mark
pub behind_near : (part : Workpiece) (ms behind : List Mark) (m : Mark) → ms ≡ m ∷ behind → AllByRecursion IsNearWay (ways_in part ms) → AllByRecursion IsNearWay (ways_in part behind)
behind_near part ms behind m e h = by (first_way part (m ∷ behind)) (subst (λ l. AllByRecursion IsNearWay (ways_in part l)) e h)
  where
    by : (o : Option Gone) → AllByRecursion IsNearWay (option_to_list o ++ ways_in part behind) → AllByRecursion IsNearWay (ways_in part behind)
    by None h = h
    by (Some w) h = h.1

-- a search finds nothing behind its end
first_within : (test : ℕ → Bool) (n : ℕ) (o : Option ℕ) → IsSearchOf test 0 (n + 1) o → unwrap_or o 0 ≤ n
first_within test n None h = omega arith
first_within test n (Some t) h = let b = h.below in omega (arith, b)

module _ (part : Workpiece) (valid : IsValid part) (p : Point) (here : is_near p ≡ true) where
  -- ---- a straight move

  aim_near : (q : Point) (stop : Option Stop) → EndsAs (free_move Move part (coordinate p) (coordinate q)) stop → HasMoved stop → is_near q ≡ true
  aim_near q stop e h = within_is_near part valid q (aim_within part (coordinate p) (coordinate q) stop e h)

  move_near : (q : Point) (stop : Option Stop) → EndsAs (free_move Move part (coordinate p) (coordinate q)) stop → AllByRecursion IsNearWay (ways_in part (marks_of_move part p q stop))
  move_near q None e = (record { from = here; to = aim_near q None e tt }, tt)
  move_near q (Some (Collision Move hit)) e = (record { from = here; to = aim_near q (Some (Collision Move hit)) e tt }, tt)
  move_near q (Some (Travel Move)) e = tt
  move_near q (Some _) e = tt

  -- ---- a measurement

  module _ (s : Settings) (m : Measuring) where
    abbrev centre : ℕ → ℤ
    centre = centre_of part (coordinate m.nominal) m.toward

    abbrev t : Touching
    t = touching part s centre m.toward m.feature

    module _ (stop : Option Stop) (ends : EndsAs (touch part s (coordinate p) (coordinate m.nominal) m.toward) stop) where
      to_near : HasAimed stop → is_near t.approach ≡ true
      to_near a = within_is_near part valid t.approach (approach_within part s (coordinate p) (coordinate m.nominal) m.toward stop ends a)

      end_near : HasSearched stop → is_near t.end ≡ true
      end_near h = within_is_near part valid t.end (end_within part s (coordinate p) (coordinate m.nominal) m.toward stop ends h)

      down_near : HasAimed stop → HasSearched stop → is_near t.touch ≡ true
      down_near a h =
          let fit = and_parts _ _ (points_fit part s (coordinate p) (coordinate m.nominal) m.toward stop ends a) in
          let aims : AreAimed s centre m.toward t.approach t.end = record { up = fit.0; down = fit.1; approach_is = refl; end_is = refl } in
          touch_is_near t.approach t.end t.touch (opposite m.toward) (unwrap_or (first_inside part s centre m.toward) 0) (s.approach + past s)
          (first_within (λ n. is_blocked part (down_of s centre m.toward n)) (s.approach + past s) (first_inside part s centre m.toward)
          (search_is (λ n. is_blocked part (down_of s centre m.toward n)) 0 (s.approach + past s + 1)))
          (to_near a) (end_near h) (end_back s centre m.toward t.approach t.end aims) refl

      back_near : HasReturned stop → is_near t.retract ≡ true
      back_near r = within_is_near part valid t.retract (back_within part s (coordinate p) (coordinate m.nominal) m.toward stop ends r)

    touch_near : (stop : Option Stop) → EndsAs (touch part s (coordinate p) (coordinate m.nominal) m.toward) stop → AllByRecursion IsNearWay (ways_in part (marks_of_touch part p t stop))
    touch_near None e =
        let a = to_near None e tt in
        let d = down_near None e tt tt in
        (record { from = here; to = a }, (record { from = a; to = d }, (record { from = d; to = back_near None e tt }, tt)))
    touch_near (Some (Travel Approach)) e = tt
    touch_near (Some (Collision Approach hit)) e = (record { from = here; to = to_near (Some (Collision Approach hit)) e tt }, tt)
    touch_near (Some (Travel Search)) e = (record { from = here; to = to_near (Some (Travel Search)) e tt }, tt)
    touch_near (Some Missed) e =
        let a = to_near (Some Missed) e tt in
        (record { from = here; to = a }, (record { from = a; to = end_near (Some Missed) e tt }, tt))
    touch_near (Some (Travel Retract)) e =
        let a = to_near (Some (Travel Retract)) e tt in
        (record { from = here; to = a }, (record { from = a; to = down_near (Some (Travel Retract)) e tt tt }, tt))
    touch_near (Some (Collision Retract hit)) e =
        let stop = Some (Collision Retract hit) in
        let a = to_near stop e tt in
        let d = down_near stop e tt tt in
        (record { from = here; to = a }, (record { from = a; to = d }, (record { from = d; to = back_near stop e tt }, tt)))
    touch_near (Some _) e = tt

  pub ways_near : (s : Settings) (task : Task) (stop : Option Stop) → TaskEnds part p s task stop → AllByRecursion IsNearWay (ways_in part (marks_of part p s task stop))
  ways_near s Nowhere stop e = tt
  ways_near s (Straight q) stop e = move_near q stop e
  ways_near s (Measure m) stop e = touch_near s m stop e
