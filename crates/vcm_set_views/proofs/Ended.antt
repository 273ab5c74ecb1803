-- A run for at most n steps ends in one way.
use Rattle.std.proofs.Common.{◌≡◌, ℕ, zero, suc, ◌+◌, ◌-◌, ◌<◌, ◌≤◌, Bool, true, false, List, [], ◌∷◌, length, slice_get, Option, Some, None, refl, subst, arith, length-append}
use Rattle.vcm_spec.specs.declared.stop.StopPlace.{StopPlace}
use Rattle.vcm_spec.specs.Workpiece.{Workpiece}
use Rattle.vcm_code.specs.Code.{CodeStatement}
use Rattle.vcm_code.specs.declared.code.Code.{Code}
use Rattle.vcm_code.specs.CodeTable.{CodeState}
use Rattle.vcm_spec.specs.Stepping.{unless_stopped}
use Rattle.vcm_probe_set.specs.Probes.{Probe}
use Rattle.vcm_turning.specs.declared.ended.NoProbe.{NoProbe}
use Rattle.vcm_turning.specs.declared.ended.Ended.{Ended}
use Rattle.vcm_turning.specs.declared.ended.Ended.TheVariants as end
use Rattle.vcm_turning.specs.Machine.{TurningEnded}
use Rattle.vcm_turning.specs.Turning.{Turned, is_lost, put_on, put_behind, stepped, taken, left, by_loss, turn_at, unless_ended, turn_step, turned_after}
use Rattle.vcm_turning.specs.Steps.{step_between, steps_at, steps_from, turned_steps}
use Rattle.vcm_set_views.specs.declared.ends.SetEnd.{SetEnd}
use Rattle.vcm_set_views.specs.Fit.{Fit}
use Rattle.vcm_set_views.specs.Ends.{HasEnded}

module _ (part : Workpiece) (ps : List Probe) (v : ℕ) (c : Code) where
  -- ---- a step adds at most one

  at_one : (count : ℕ) (t : Turned) (o : Option CodeStatement) → length (steps_at part ps v c count t o) ≤ 1
  at_one count t None = omega arith
  at_one count t (Some s) = by (is_lost part.bounds.home ps v t s.op)
    where
      by : (b : Bool) → length (by_loss b [] (step_between ps v count t s (stepped part ps c t) (taken part ps v c t) ∷ [])) ≤ 1
      by true = omega arith
      by false = omega arith

  from_one : (count : ℕ) (t : Turned) → length (steps_from part ps v c count t) ≤ 1
  from_one count t = by t.ended t.state.world.stop
    where
      by : (e : Option NoProbe) (o : Option StopPlace)
          → length (unless_ended e [] (unless_stopped o [] (steps_at part ps v c count t (slice_get c.statements t.state.next)))) ≤ 1
      by (Some e) o = omega arith
      by None (Some p) = omega arith
      by None None = at_one count t (slice_get c.statements t.state.next)

  abbrev count : ℕ → ℕ
  count n = length (turned_steps part ps v c n)

  one_more : (n : ℕ) → count (suc n) ≡ count n + length (steps_from part ps v c (suc n) (turned_after part ps v c n))
  one_more n = length-append (turned_steps part ps v c n) (steps_from part ps v c (suc n) (turned_after part ps v c n))

  few_more : (n j : ℕ) → count (n + j) ≤ count n + j
  few_more n zero = let e : n + 0 ≡ n = omega arith in rw e (omega arith)
  few_more n (suc j) =
      let e : n + suc j ≡ suc (n + j) = omega arith in
      let h = few_more n j in
      let k = one_more (n + j) in
      let l = from_one (suc (n + j)) (turned_after part ps v c (n + j)) in
      rw e (omega (arith, h, k, l))

  -- ---- behind an end there is none

  ended_not : (m : CodeState) (on put : Option ℕ) (e : NoProbe) → (put_on ps m on put).ended ≡ Some e → ⊥
  ended_not m on None e h = let no : None ≡ Some e = h in cc
  ended_not m on (Some i) e h = let no : None ≡ Some e = h in cc

  lost_at : (n : ℕ) (t : Turned) (o : Option CodeStatement) (e : NoProbe) → t.ended ≡ None → (turn_at part ps v c t o).ended ≡ Some e
      → length (steps_at part ps v c n t o) ≡ 0
  lost_at n t None e none h = refl
  lost_at n t (Some s) e none h = by (is_lost part.bounds.home ps v t s.op) h
    where
      by : (b : Bool) → (by_loss b (left v t s) (taken part ps v c t)).ended ≡ Some e
          → length (by_loss b [] (step_between ps v n t s (stepped part ps c t) (taken part ps v c t) ∷ [])) ≡ 0
      by true h = refl
      by false h = absurd (ended_not (stepped part ps c t) t.on (put_behind ps v (stepped part ps c t) t.on) e h)

  lost_here : (n : ℕ) (t : Turned) (e : NoProbe) → (turn_step part ps v c t).ended ≡ Some e → length (steps_from part ps v c n t) ≡ 0
  lost_here n t e h = by t.ended t.state.world.stop refl h
    where
      next : Option CodeStatement
      next = slice_get c.statements t.state.next

      by : (a : Option NoProbe) (o : Option StopPlace) → t.ended ≡ a → (unless_ended a t (unless_stopped o t (turn_at part ps v c t next))).ended ≡ Some e
          → length (unless_ended a [] (unless_stopped o [] (steps_at part ps v c n t next))) ≡ 0
      by (Some a) o is h = refl
      by None (Some p) is h = refl
      by None None is h = lost_at n t next e is h

  stopped_here : (n : ℕ) (t : Turned) (p : StopPlace) → t.state.world.stop ≡ Some p → length (steps_from part ps v c n t) ≡ 0
  stopped_here n t p h = by t.ended t.state.world.stop h
    where
      by : (a : Option NoProbe) (o : Option StopPlace) → o ≡ Some p
          → length (unless_ended a [] (unless_stopped o [] (steps_at part ps v c n t (slice_get c.statements t.state.next)))) ≡ 0
      by (Some a) o is = refl
      by None (Some q) is = refl
      by None None is = absurd (let no : None ≡ Some p = is in cc)

  -- a run that has ended behind so many steps has no more of them, or all that were asked for
  ended_here : (n done : ℕ) (e : Ended) → (e ≡ end.NoMemory → ⊥) → TurningEnded n part ps v c done e → (m : ℕ) → done < m → m ≤ n → count done ≡ done → count m ≡ m → ⊥
  ended_here n done e ample h m l few at there = by e ample h
    where
      none : length (steps_from part ps v c (suc done) (turned_after part ps v c done)) ≡ 0 → ⊥
      none z =
          let j = m - suc done in
          let is : suc done + j ≡ m = omega (arith, l) in
          let more = subst (λ k. count k ≤ count (suc done) + j) is (few_more (suc done) j) in
          let one = one_more done in
          omega (arith, more, one, z, at, there, l)

      by : (e : Ended) → (e ≡ end.NoMemory → ⊥) → TurningEnded n part ps v c done e → ⊥
      by end.Stopped ample h = none (stopped_here (suc done) (turned_after part ps v c done) h.0 h.1)
      by end.Count ample h = let all = h.0 in omega (arith, all, l, few)
      by (end.Lost p) ample h = none (lost_here (suc done) (turned_after part ps v c done) p h.1)
      by end.NoMemory ample h = ample refl

-- so it takes so many steps and no others
pub one_count : (f : Fit) (n : ℕ) (a b : SetEnd) → HasEnded f n a → HasEnded f n b → a.done ≡ b.done
one_count f n a b ha hb =
    let first = ended_here f.part f.probes f.variable f.code n a.done a.end ha.ample ha.ended b.done in
    let second = ended_here f.part f.probes f.variable f.code n b.done b.end hb.ample hb.ended a.done in
    let no_less : a.done < b.done → ⊥ = λ l. first l hb.few ha.each hb.each in
    let no_more : b.done < a.done → ⊥ = λ l. second l ha.few hb.each ha.each in
    omega (arith, no_less, no_more)
