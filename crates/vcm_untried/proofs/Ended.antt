-- A run that was counted to its end.
use Rattle.std.proofs.Common.{◌≡◌, ℕ, zero, suc, ◌^◌, ◌<◌, ◌≤◌, List, [], ◌∷◌, ◌++◌, length, slice_get, Option, Some, None, refl, sym, ap, ◌∙◌, subst, arith}
use Rattle.std.specs.Prelude.{IfOk, Result, Ok, Err}
use Rattle.std.proofs.lemmas.List.{length-append}
use Rattle.std.proofs.lemmas.Option.{slice_get_within}
use Rattle.vcm_spec.specs.declared.stop.StopPlace.{StopPlace}
use Rattle.vcm_spec.specs.Workpiece.{Workpiece}
use Rattle.vcm_spec.specs.Setup.{setup_of}
use Rattle.vcm_spec.specs.Stepping.{unless_stopped}
use Rattle.vcm_code.specs.declared.code.Code.{Code}
use Rattle.vcm_code.specs.Code.{CodeStatement}
use Rattle.vcm_code.specs.CodeTable.{CodeState, code_step, code_steps}
use Rattle.vcm_machine.specs.declared.ran.Ran.{Ran}
use Rattle.vcm_machine.specs.declared.ran.End.{End}
use Rattle.vcm_machine.specs.declared.ran.End.TheVariants as ends
use Rattle.vcm_machine.specs.Running.{Running, started, later, HasRun, RunEnded}
use Rattle.vcm_remarks.specs.declared.remark.NumberedRemark.{NumberedRemark}
use Rattle.vcm_steps.specs.Passages.{Passage, passage_at, passage_from, passages, setup_with, state_after}
use Rattle.vcm_steps.proofs.PassageLemmas.{taken_most, passages_stopped}
use Rattle.vcm_untried.specs.Times.{times, remark_times}
use Rattle.vcm_untried.specs.declared.counting.Progress.{Progress}
use Rattle.vcm_untried.specs.declared.counting.Counts.{Counts}
use Rattle.vcm_untried.specs.Counted.{AreCounted}
use Rattle.vcm_untried.specs.Telling.{shown, remark_on, told_of}
use Rattle.vcm_untried.specs.inner.Following.{AreWithin, ranged, tabled, readings, IsOpening, IsKept, HasCounted}
use Rattle.vcm_untried.proofs.Tables.{length_ranged}
use Rattle.vcm_untried.proofs.Kept.{reading_times}

module _ (part : Workpiece) (c : Code) where
  -- ---- the steps of a run are of its statements, and no more than it is asked for

  at_within : (count : ℕ) (m after : CodeState) (o : Option CodeStatement) → slice_get c.statements m.next ≡ o → AreWithin (length c.statements) (passage_at count m after o)
  at_within count m after None e = tt
  at_within count m after (Some s) e = (slice_get_within c.statements m.next s e, tt)

  from_within : (count : ℕ) (m : CodeState) → AreWithin (length c.statements) (passage_from part c count m)
  from_within count m = by m.world.stop
    where
      more : List Passage
      more = passage_at count m (code_step (setup_with part c) c.statements m) (slice_get c.statements m.next)

      by : (o : Option StopPlace) → AreWithin (length c.statements) (unless_stopped o [] more)
      by (Some p) = tt
      by None = at_within count m (code_step (setup_with part c) c.statements m) (slice_get c.statements m.next) refl

  both_within : (k : ℕ) (ps qs : List Passage) → AreWithin k ps → AreWithin k qs → AreWithin k (ps ++ qs)
  both_within k [] qs h i = i
  both_within k (p ∷ ps) qs h i = (h.0, both_within k ps qs h.1 i)

  pub all_within : (n : ℕ) → AreWithin (length c.statements) (passages part c n)
  all_within zero = tt
  all_within (suc n) = both_within (length c.statements) (passages part c n) (passage_from part c (suc n) (state_after part c n)) (all_within n) (from_within (suc n) (state_after part c n))

  at_short : (count : ℕ) (m after : CodeState) (o : Option CodeStatement) → length (passage_at count m after o) ≤ 1
  at_short count m after None = omega arith
  at_short count m after (Some s) = omega arith

  from_short : (count : ℕ) (m : CodeState) → length (passage_from part c count m) ≤ 1
  from_short count m = by m.world.stop
    where
      more : List Passage
      more = passage_at count m (code_step (setup_with part c) c.statements m) (slice_get c.statements m.next)

      by : (o : Option StopPlace) → length (unless_stopped o [] more) ≤ 1
      by (Some p) = omega arith
      by None = at_short count m (code_step (setup_with part c) c.statements m) (slice_get c.statements m.next)

  pub all_short : (n : ℕ) → length (passages part c n) ≤ n
  all_short zero = omega arith
  all_short (suc n) =
      let e = length-append (passages part c n) (passage_from part c (suc n) (state_after part c n)) in
      let a = all_short n in
      let b = from_short (suc n) (state_after part c n) in
      omega (arith, e, a, b)

  -- ---- the end

  module _ (n : ℕ) (first m : Running) (ran : Ran) (is : first ≡ started part c) (run : HasRun n first m ran) where
    ended : RunEnded n (started part c) m ran.done ran.end
    ended = subst (λ o. RunEnded n o m ran.done ran.end) is run.ended

    state : m.state ≡ state_after part c ran.done
    state = ap (λ r. r.state) run.new_is ∙ ap (λ o. code_steps (setup_of o.part o.code.tables) o.code.statements ran.done o.state) is

    -- no more steps are done than it is asked for
    pub done_most : ran.done ≤ n
    done_most = by ran.end ended
      where
        by : (e : End) → RunEnded n (started part c) m ran.done e → ran.done ≤ n
        by ends.NoMemory r = (let l = r.0 in omega (arith, l))
        by ends.Stopped r = (let d = r.0 in let l = taken_most part c n in omega (arith, d, l))
        by ends.Count r = (let d = r.0 in omega (arith, d))

    -- memory was refused to a step
    pub halted : ran.end ≡ ends.NoMemory → RunEnded n (started part c) (later ran.done (started part c)) ran.done ends.NoMemory
    halted e =
        subst (λ o. RunEnded n (started part c) (later ran.done o) ran.done ends.NoMemory) is
        (subst (λ r. RunEnded n (started part c) r ran.done ends.NoMemory) run.new_is (subst (λ x. RunEnded n (started part c) m ran.done x) e ended))

    -- else all steps were followed
    pub whole_stopped : ran.end ≡ ends.Stopped → passages part c ran.done ≡ passages part c n
    whole_stopped e =
        let r : RunEnded n (started part c) m ran.done ends.Stopped = subst (λ x. RunEnded n (started part c) m ran.done x) e ended in
        sym (passages_stopped part c n ran.done r.1.0 r.0 (ap (λ x. x.world.stop) (sym state) ∙ r.1.1))

    pub whole_counted : ran.end ≡ ends.Count → passages part c ran.done ≡ passages part c n
    whole_counted e =
        let r : RunEnded n (started part c) m ran.done ends.Count = subst (λ x. RunEnded n (started part c) m ran.done x) e ended in
        ap (passages part c) r.0

-- what stands at the places of remarks is how often their statements are taken
pub readings_are : (ps : List Passage) (k : ℕ) (remarks : List NumberedRemark) → AreWithin k ps → readings (ranged (times ps) 0 k) remarks ≡ remark_times ps remarks
readings_are ps k [] h = refl
readings_are ps k (r ∷ remarks) h =
    ap (λ x. x ∷ readings (ranged (times ps) 0 k) remarks) (reading_times ps k r.number h) ∙ ap (λ l. times ps r.number ∷ l) (readings_are ps k remarks h)

-- two facts of what a call gave
pub if_both : {T E : Type 0} {P Q R : T → Type 0} (r : Result T E) → ((x : T) → P x → Q x → R x) → IfOk r P → IfOk r Q → IfOk r R
if_both (Ok x) h p q = h x p q
if_both (Err e) h p q = tt

-- what a follower kept of a run
pub kept_run : (part : Workpiece) (c : Code) (n : ℕ) (first m : Running) (ran : Ran) → first ≡ started part c → n < 2 ^ 64 → HasRun n first m ran
    → (remarks : List NumberedRemark) (table : List (Option NumberedRemark)) (from to : Progress) → table ≡ tabled remarks (length c.statements)
    → IsOpening remarks (length c.statements) from → HasCounted remarks table from to (passages part c ran.done)
    → IsKept remarks (length c.statements) (passages part c ran.done) to
kept_run part c n first m ran is few run remarks table from to e opening has =
    let k : length table ≡ length c.statements = ap length e ∙ length_ranged (remark_on remarks) 0 (length c.statements) in
    let ps = passages part c ran.done in
    let a = all_short part c ran.done in
    let b = done_most part c n first m ran is run in
    subst (λ i. IsKept remarks i ps to) k
    (has (record {
      table_is = e ∙ ap (tabled remarks) (sym k);
      opening = subst (λ i. IsOpening remarks i from) (sym k) opening;
      short = omega (arith, a, b, few);
      within = subst (λ i. AreWithin i ps) (sym k) (all_within part c ran.done);
    }))

-- what was kept of a whole run are its counts
pub counted : (part : Workpiece) (c : Code) (n done : ℕ) (remarks : List NumberedRemark) (to : Progress) (x : Counts) → passages part c done ≡ passages part c n
    → IsKept remarks (length c.statements) (passages part c done) to → x.taken.items ≡ readings to.taken.items remarks → x.told ≡ to.told → AreCounted part c n remarks x
counted part c n done remarks to x whole kept taken told =
    let ps = passages part c done in record {
      taken = taken ∙ ap (λ l. readings l remarks) kept.taken ∙ readings_are ps (length c.statements) remarks (all_within part c done) ∙ ap (λ qs. remark_times qs remarks) whole;
      told = ap shown told ∙ kept.told ∙ ap (told_of remarks) whole;
    }
