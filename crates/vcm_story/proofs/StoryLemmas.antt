-- What following a run has written is its story, or a front of it.
use Rattle.std.proofs.Common.{◌≡◌, ℕ, suc, ◌+◌, ◌-◌, ◌≤◌, List, [], ◌∷◌, ◌++◌, take, drop, slice_get, Option, Some, None, refl, sym, ap, ◌∙◌, subst, arith, append_assoc}
use Rattle.std.proofs.lemmas.List.{append-nil, flat_map_more, take-append-drop}
use Rattle.std.proofs.lemmas.Grind.{flat_map-append}
use Rattle.std.specs.Prelude.{flat_map}
use Rattle.std.specs.Io.KnownBytes.{Appends}
use Rattle.vcm_num.specs.Written.{AppendsFront}
use Rattle.vcm_num.proofs.KnownWrites.{appends_more}
use Rattle.vcm_spec.specs.declared.stop.StopPlace.{StopPlace}
use Rattle.vcm_spec.specs.Workpiece.{Workpiece}
use Rattle.vcm_spec.specs.Setup.{Tables, setup_of}
use Rattle.vcm_spec.specs.World.{World}
use Rattle.vcm_code.specs.declared.code.Code.{Code}
use Rattle.vcm_code.specs.Code.{CodeStatement}
use Rattle.vcm_code.specs.CodeTable.{CodeState, code_steps}
use Rattle.vcm_machine.specs.declared.ran.End.TheVariants as ends
use Rattle.vcm_machine.specs.declared.ran.Ran.{Ran}
use Rattle.vcm_machine.specs.Running.{Running, started, RunEnded, HasRun}
use Rattle.vcm_marks.specs.declared.mark.Mark.{Mark}
use Rattle.vcm_way.specs.declared.step.Before.{Before}
use Rattle.vcm_way.specs.Steps.{IsBefore}
use Rattle.vcm_way.specs.Tasks.{marks_of}
use Rattle.vcm_way.specs.Ways.{reason}
use Rattle.vcm_way.proofs.Stepped.{marks_are}
use Rattle.vcm_steps.specs.Passages.{Passage, passage, state_after, steps_taken, passages, IsBroken}
use Rattle.vcm_steps.proofs.PassageLemmas.{rest_of, taken_most, state_stopped, passages_stopped}
use Rattle.vcm_trace.specs.Lines.{open_line}
use Rattle.vcm_trace.specs.Traces.{open_at, last_line}
use Rattle.vcm_story.specs.Steps.{step_rows}
use Rattle.vcm_story.specs.Stories.{rows_from, passage_rows, TookFront, IsStory}
use Rattle.vcm_story.specs.inner.Going.{HasRows, HasBegun}

-- the line of a state before a statement is that of the statement's line
pub open_is : (count : ℕ) (m : CodeState) (ss : List CodeStatement) (s : CodeStatement) (next line : ℕ) → next ≡ m.next → slice_get ss next ≡ Some s → line ≡ s.line
    → open_line count next line m.world ≡ open_at count m (slice_get ss m.next)
open_is count m ss s next line n stands l =
    ap (λ k. open_line count next k m.world) l ∙ ap (λ k. open_line count k s.line m.world) n ∙ ap (open_at count m) (sym (subst (λ k. slice_get ss k ≡ Some s) n stands))

-- ---- fronts

-- a front of what comes first
pub first_front : (a b : Option (List ℕ)) (xs ys zs : List ℕ) → xs ++ ys ≡ zs → AppendsFront a b xs → TookFront a b zs
first_front a b xs ys zs e h =
    (take h.0 xs, drop h.0 xs ++ ys, sym (append_assoc (take h.0 xs) (drop h.0 xs) ys) ∙ ap (λ l. l ++ ys) (take-append-drop h.0 xs) ∙ e, h.2)

-- what comes first, and a front of what comes then
pub then_front : (a b d : Option (List ℕ)) (xs ys zs : List ℕ) → xs ++ ys ≡ zs → Appends a b xs → TookFront b d ys → TookFront a d zs
then_front a b d xs ys zs e h k =
    (xs ++ k.0, k.1, append_assoc xs k.0 k.1 ∙ ap (λ l. xs ++ l) k.2 ∙ e, appends_more a b d xs k.0 _ refl h k.3)

-- a front of a front
pub front_more : (a b : Option (List ℕ)) (xs ys zs : List ℕ) → xs ++ ys ≡ zs → TookFront a b xs → TookFront a b zs
front_more a b xs ys zs e k = (k.0, k.1 ++ ys, sym (append_assoc k.0 k.1 ys) ∙ ap (λ l. l ++ ys) k.2 ∙ e, k.3)

-- ---- the steps

-- what is written with the marks of what was known before a step is what the step adds
pub seen : (part : Workpiece) (b : Before) (s : CodeStatement) (w after : World) → IsBefore part.bounds.home w s b → (count number next from : ℕ) (tables : Tables) (ms : List Mark)
    → ms ≡ marks_of part b.position b.settings b.task (reason after.stop)
    → rows_from from tables (passage count number s w after next) (step_rows tables ms (passage count number s w after next)) ≡ passage_rows part tables from (passage count number s w after next)
seen part b s w after is count number next from tables ms e =
    let p = passage count number s w after next in
    ap (λ m. rows_from from tables p (step_rows tables m p)) (e ∙ marks_are part b s w after is count number next)

-- one more step, and a front of its rows
module _ (rows : Passage → List ℕ) (a b d : Option (List ℕ)) (ps : List Passage) (p : Passage) (h : HasRows rows a b ps) where
  pub one_step : Appends b d (rows p) → HasRows rows a d (ps ++ p ∷ [])
  one_step k = appends_more a b d _ _ _ (flat_map_more rows [] ps p) h k

  pub part_of_step : AppendsFront b d (rows p) → HasBegun rows a d ps p
  part_of_step k = then_front a b d _ _ _ (flat_map_more rows [] ps p) h (first_front b d (rows p) [] _ (append-nil (rows p)) k)

module _ (part : Workpiece) (c : Code) (rows : Passage → List ℕ) (before : List ℕ) where
  -- what stands before the steps, and those of a run for k
  abbrev told : ℕ → List ℕ
  told k = before ++ flat_map rows (passages part c k)

  -- all that is told of a run for n steps
  abbrev whole : ℕ → List ℕ
  whole n = told n ++ last_line c (steps_taken part c n) (state_after part c n) (state_after part c n).world.stop

  -- what it begins with
  told_front : (n k : ℕ) → k ≤ n → (rest : List ℕ) × (told k ++ rest ≡ whole n)
  told_front n k l =
      let r = rest_of part c k (n - k) in
      let end = last_line c (steps_taken part c n) (state_after part c n) (state_after part c n).world.stop in
      let more = flat_map rows r.0 in
      let all : k + (n - k) ≡ n = omega (arith, l) in
      let joined = sym (flat_map-append rows (passages part c k) r.0) ∙ ap (flat_map rows) r.1 ∙ ap (λ i. flat_map rows (passages part c i)) all in (
        more ++ end,
        sym (append_assoc (told k) more end) ∙ ap (λ x. x ++ end) (append_assoc before (flat_map rows (passages part c k)) more) ∙ ap (λ x. (before ++ x) ++ end) joined,
      )

  -- the rows of a step could not be written
  pub broken_off : (n : ℕ) (a b d : Option (List ℕ)) → Appends a b before → IsBroken n part c (λ ps p. HasBegun rows b d ps p) → TookFront a d (whole n)
  broken_off n a b d h i =
      let k = suc i.done in
      let r = told_front n k (let t = taken_most part c n in let u = i.taken in omega (arith, t, u)) in
      let text : before ++ flat_map rows (passages part c i.done ++ i.last ∷ []) ≡ told k = ap (λ ps. before ++ flat_map rows ps) (sym i.passages_are) in
      front_more a d (told k) r.0 (whole n) r.1 (then_front a b d before _ (told k) text h i.broken)

  -- what stands before the steps could not be written
  pub not_begun : (n : ℕ) (a b : Option (List ℕ)) → AppendsFront a b before → TookFront a b (whole n)
  not_begun n a b h =
      let r = told_front n 0 (omega arith) in
      let text : before ++ r.0 ≡ whole n = ap (λ x. x ++ r.0) (sym (append-nil before)) ∙ r.1 in
      first_front a b before r.0 (whole n) text h

  module _ (n : ℕ) (old m : Running) (ran : Ran) (is : old ≡ started part c) (run : HasRun n old m ran) (a b d : Option (List ℕ)) (h : Appends a b before)
      (w : HasRows rows b d (passages part c ran.done)) where
    ended : RunEnded n (started part c) m ran.done ran.end
    ended = subst (λ o. RunEnded n o m ran.done ran.end) is run.ended

    state : m.state ≡ state_after part c ran.done
    state = ap (λ r. r.state) run.new_is ∙ ap (λ o. code_steps (setup_of o.part o.code.tables) o.code.statements ran.done o.state) is

    written : Appends a d (told ran.done)
    written = appends_more a b d _ _ _ refl h w

    -- memory was refused to a step
    pub halted : ran.end ≡ ends.NoMemory → TookFront a d (whole n)
    halted e =
        let r = subst (λ x. RunEnded n (started part c) m ran.done x) e ended in
        let f = told_front n ran.done (omega (arith, r.0)) in
        (told ran.done, f.0, f.1, written)

    -- it has stopped
    pub has_stopped : (stop : Option StopPlace) → ran.end ≡ ends.Stopped → stop ≡ m.state.world.stop → IsStory part c (whole n) n stop a d
    has_stopped stop e s =
        let r = subst (λ x. RunEnded n (started part c) m ran.done x) e ended in
        let here : (state_after part c ran.done).world.stop ≡ Some r.1.0 = ap (λ x. x.world.stop) (sym state) ∙ r.1.1 in
        let far = state_stopped part c n ran.done r.0 in
        let there : (state_after part c n).world.stop ≡ Some r.1.0 = ap (λ x. x.world.stop) far ∙ here in
        let text : told ran.done ≡ whole n =
        sym (append-nil (told ran.done))
        ∙ ap (λ ps. (before ++ flat_map rows ps) ++ []) (sym (passages_stopped part c n ran.done r.1.0 r.0 here))
        ∙ ap (λ o. told n ++ last_line c (steps_taken part c n) (state_after part c n) o) (sym there) in
        record { stop_is = s ∙ r.1.1 ∙ sym there; written = subst (λ l. Appends a d l) text written }

    -- all steps were taken
    module _ (e : ran.end ≡ ends.Count) (z : Option (List ℕ)) where
      counted : (ran.done ≡ n) × (n ≡ steps_taken part c n) × (m.state.world.stop ≡ None)
      counted = subst (λ x. RunEnded n (started part c) m ran.done x) e ended

      open_stop : (state_after part c n).world.stop ≡ None
      open_stop = ap (λ i. (state_after part c i).world.stop) (sym counted.0) ∙ ap (λ x. x.world.stop) (sym state) ∙ counted.2

      abbrev rest : List ℕ
      rest = open_at ran.done m.state (slice_get c.statements m.state.next)

      text : told ran.done ++ rest ≡ whole n
      text =
          ap (λ s. told ran.done ++ open_at ran.done s (slice_get c.statements s.next)) state
          ∙ ap (λ i. told i ++ open_at i (state_after part c i) (slice_get c.statements (state_after part c i).next)) counted.0
          ∙ ap (λ i. told n ++ open_at i (state_after part c n) (slice_get c.statements (state_after part c n).next)) counted.1
          ∙ ap (λ o. told n ++ last_line c (steps_taken part c n) (state_after part c n) o) (sym open_stop)

      pub is_open : Appends d z rest → IsStory part c (whole n) n None a z
      is_open k = record { stop_is = sym open_stop; written = appends_more a d z _ _ _ text written k }

      pub cut_last : AppendsFront d z rest → TookFront a z (whole n)
      cut_last k = then_front a d z (told ran.done) rest (whole n) text written (first_front d z rest [] rest (append-nil rest) k)
