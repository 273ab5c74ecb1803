-- A run that turns its head, counted to its end.
use Rattle.std.proofs.Common.{◌≡◌, ℕ, zero, suc, ◌^◌, ◌<◌, ◌≤◌, Bool, true, false, List, [], ◌∷◌, ◌++◌, length, slice_get, Option, Some, None, refl, sym, ap, ◌∙◌, subst, arith}
use Rattle.std.proofs.lemmas.Option.{slice_get_within}
use Rattle.vcm_spec.specs.declared.stop.StopPlace.{StopPlace}
use Rattle.vcm_spec.specs.Workpiece.{Workpiece}
use Rattle.vcm_spec.specs.Stepping.{unless_stopped}
use Rattle.vcm_code.specs.declared.code.Code.{Code}
use Rattle.vcm_code.specs.Code.{CodeStatement}
use Rattle.vcm_remarks.specs.declared.remark.NumberedRemark.{NumberedRemark}
use Rattle.vcm_steps.specs.Passages.{Passage}
use Rattle.vcm_probe_set.specs.Probes.{Probe}
use Rattle.vcm_turning.specs.declared.ended.NoProbe.{NoProbe}
use Rattle.vcm_turning.specs.declared.ended.Ran.{Ran}
use Rattle.vcm_turning.specs.Machine.{Turner, HasRunTurned}
use Rattle.vcm_turning.specs.Turning.{Turned, is_lost, stepped, taken, by_loss, unless_ended, turned_after}
use Rattle.vcm_turning.specs.Steps.{TurnedStep, step_between, steps_at, steps_from, turned_steps}
use Rattle.vcm_untried.specs.declared.counting.Progress.{Progress}
use Rattle.vcm_untried.specs.declared.counting.Counts.{Counts}
use Rattle.vcm_untried.specs.Telling.{shown, remark_on, told_of}
use Rattle.vcm_untried.specs.Turned.{passages_of, AreCountedTurned}
use Rattle.vcm_untried.specs.inner.Following.{AreWithin, tabled, readings, IsOpening, IsKept, HasCounted}
use Rattle.vcm_untried.proofs.Tables.{length_ranged}
use Rattle.vcm_untried.proofs.Ended.{readings_are}

-- the passages of one step more
more_of : (ss : List TurnedStep) (s : TurnedStep) → passages_of (ss ++ s ∷ []) ≡ passages_of ss ++ s.passage ∷ []
more_of [] s = refl
more_of (t ∷ ss) s = ap (λ ps. t.passage ∷ ps) (more_of ss s)

pub counted_more : (remarks : List NumberedRemark) (table : List (Option NumberedRemark)) (from to : Progress) (ss : List TurnedStep) (s : TurnedStep)
    → HasCounted remarks table from to (passages_of ss ++ s.passage ∷ []) → HasCounted remarks table from to (passages_of (ss ++ s ∷ []))
counted_more remarks table from to ss s h = subst (HasCounted remarks table from to) (sym (more_of ss s)) h

both_of : (ss ts : List TurnedStep) → passages_of (ss ++ ts) ≡ passages_of ss ++ passages_of ts
both_of [] ts = refl
both_of (s ∷ ss) ts = ap (λ ps. s.passage ∷ ps) (both_of ss ts)

as_many : (ss : List TurnedStep) → length (passages_of ss) ≡ length ss
as_many [] = refl
as_many (s ∷ ss) = ap suc (as_many ss)

both_within : (k : ℕ) (ps qs : List Passage) → AreWithin k ps → AreWithin k qs → AreWithin k (ps ++ qs)
both_within k [] qs h i = i
both_within k (p ∷ ps) qs h i = (h.0, both_within k ps qs h.1 i)

module _ (part : Workpiece) (ps : List Probe) (v : ℕ) (c : Code) where
  -- ---- the steps of a run are of its statements

  abbrev Within : List TurnedStep → Type 0
  Within ss = AreWithin (length c.statements) (passages_of ss)

  module _ (count : ℕ) (t : Turned) where
    loss_within : (s : CodeStatement) (b : Bool) → slice_get c.statements t.state.next ≡ Some s
        → Within (by_loss b [] (step_between ps v count t s (stepped part ps c t) (taken part ps v c t) ∷ []))
    loss_within s true e = tt
    loss_within s false e = (slice_get_within c.statements t.state.next s e, tt)

    at_within : (o : Option CodeStatement) → slice_get c.statements t.state.next ≡ o → Within (steps_at part ps v c count t o)
    at_within None e = tt
    at_within (Some s) e = loss_within s (is_lost part.bounds.home ps v t s.op) e

    running_within : (o : Option StopPlace) → Within (unless_stopped o [] (steps_at part ps v c count t (slice_get c.statements t.state.next)))
    running_within (Some p) = tt
    running_within None = at_within (slice_get c.statements t.state.next) refl

    ended_within : (o : Option NoProbe)
        → Within (unless_ended o [] (unless_stopped t.state.world.stop [] (steps_at part ps v c count t (slice_get c.statements t.state.next))))
    ended_within (Some e) = tt
    ended_within None = running_within t.state.world.stop

  all_within : (n : ℕ) → Within (turned_steps part ps v c n)
  all_within zero = tt
  all_within (suc n) =
      let t = turned_after part ps v c n in
      let ss = turned_steps part ps v c n in
      let ts = steps_from part ps v c (suc n) t in
      subst (AreWithin (length c.statements)) (sym (both_of ss ts))
      (both_within (length c.statements) (passages_of ss) (passages_of ts) (all_within n) (ended_within (suc n) t t.ended))

  -- ---- the end

  -- what a follower kept of a run
  pub kept_turns : (n : ℕ) (m : Turner) (ran : Ran) → n < 2 ^ 64 → HasRunTurned n part ps v c m ran
      → (remarks : List NumberedRemark) (table : List (Option NumberedRemark)) (from to : Progress) → table ≡ tabled remarks (length c.statements)
      → IsOpening remarks (length c.statements) from → HasCounted remarks table from to (passages_of (turned_steps part ps v c ran.done))
      → IsKept remarks (length c.statements) (passages_of (turned_steps part ps v c ran.done)) to
  kept_turns n m ran few run remarks table from to e opening has =
      let k : length table ≡ length c.statements = ap length e ∙ length_ranged (remark_on remarks) 0 (length c.statements) in
      let qs = passages_of (turned_steps part ps v c ran.done) in
      let a : length qs ≡ ran.done = as_many (turned_steps part ps v c ran.done) ∙ run.each in
      let b = run.few in
      subst (λ i. IsKept remarks i qs to) k
      (has (record {
        table_is = e ∙ ap (tabled remarks) (sym k);
        opening = subst (λ i. IsOpening remarks i from) (sym k) opening;
        short = omega (arith, a, b, few);
        within = subst (λ i. AreWithin i qs) (sym k) (all_within ran.done);
      }))

  -- what was kept of a run are its counts
  pub counted_turns : (n : ℕ) (m : Turner) (ran : Ran) → HasRunTurned n part ps v c m ran → (remarks : List NumberedRemark) (to : Progress) (x : Counts)
      → IsKept remarks (length c.statements) (passages_of (turned_steps part ps v c ran.done)) to → x.taken.items ≡ readings to.taken.items remarks → x.told ≡ to.told
      → AreCountedTurned part ps v c n remarks x
  counted_turns n m ran run remarks to x kept taken told = record {
    done = ran.done;
    end = ran.end;
    ended = run.ended;
    taken = taken ∙ ap (λ l. readings l remarks) kept.taken
        ∙ readings_are (passages_of (turned_steps part ps v c ran.done)) (length c.statements) remarks (all_within ran.done);
    told = ap shown told ∙ kept.told;
  }
