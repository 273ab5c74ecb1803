-- One more step of what is noted.
use Rattle.std.proofs.Common.{◌≡◌, ℕ, List, [], ◌∷◌, ◌++◌, refl, sym, ap, ◌∙◌, subst}
use Rattle.vcm_num.specs.declared.point.Point.{Point}
use Rattle.vcm_spec.specs.declared.stop.StopPlace.{StopPlace}
use Rattle.std.specs.Prelude.{Option, Result, Ok, Err, IfOk}
use Rattle.vcm_spec.specs.Workpiece.{Workpiece}
use Rattle.vcm_spec.specs.Setup.{setup_of}
use Rattle.vcm_code.specs.declared.code.Code.{Code}
use Rattle.vcm_code.specs.CodeTable.{code_steps}
use Rattle.vcm_machine.specs.declared.ran.Ran.{Ran}
use Rattle.vcm_machine.specs.declared.ran.End.TheVariants as ends
use Rattle.vcm_machine.specs.Running.{Running, started, HasRun, RunEnded}
use Rattle.vcm_steps.specs.Passages.{Passage, passages, state_after}
use Rattle.vcm_steps.proofs.PassageLemmas.{passages_stopped, state_stopped}
use Rattle.vcm_trace.specs.Framed.{Frames, FramedStep, framed_step, no_frames, frames_with, frames_behind, framed}
use Rattle.vcm_trace.specs.Rows.{framed_steps}
use Rattle.vcm_trace.proofs.FramedLemmas.{behind_more, framed_more}
use Rattle.vcm_meant.specs.Noted.{Noted, nothing_noted, noted_with, noted_behind}
use Rattle.vcm_meant.specs.Meant.{remarks_of, meant}
use Rattle.vcm_meant.specs.declared.remark.Remark.{Remark}

more : (home : Point) (n : Noted) (ss : List FramedStep) (s : FramedStep) → noted_behind home n (ss ++ s ∷ []) ≡ noted_with home (noted_behind home n ss) s
more home n [] s = refl
more home n (t ∷ ss) s = more home (noted_with home n t) ss s

-- what is known of an answer, if there is one, gives another
pub if_ok_then : {A B : Type 0} (r : Result A B) (P Q : A → Type 0) → ((x : A) → P x → Q x) → IfOk r P → IfOk r Q
if_ok_then (Ok x) P Q f h = f x h
if_ok_then (Err e) P Q f h = h

-- one step more
module _ (home : Point) (first old new : Noted) (fs kept after : Frames) (ps : List Passage) (p : Passage) (k : kept ≡ frames_behind fs ps) where
  pub one_kept : after ≡ frames_with kept p → after ≡ frames_behind fs (ps ++ p ∷ [])
  one_kept e = e ∙ ap (λ x. frames_with x p) k ∙ sym (behind_more fs ps p)

  pub one_noted : old ≡ noted_behind home first (framed fs ps) → new ≡ noted_with home old (framed_step kept p)
      → new ≡ noted_behind home first (framed fs (ps ++ p ∷ []))
  one_noted h e =
      e ∙ ap (λ n. noted_with home n (framed_step kept p)) h ∙ ap (λ x. noted_with home (noted_behind home first (framed fs ps)) (framed_step x p)) k
      ∙ sym (ap (noted_behind home first) (framed_more fs ps p) ∙ more home first (framed fs ps) (framed_step (frames_behind fs ps) p))

-- a run that was followed to its end
module _ (part : Workpiece) (c : Code) (n : ℕ) (first m : Running) (ran : Ran) (is : first ≡ started part c) (run : HasRun n first m ran) where
  ended : RunEnded n (started part c) m ran.done ran.end
  ended = subst (λ o. RunEnded n o m ran.done ran.end) is run.ended

  state : m.state ≡ state_after part c ran.done
  state = ap (λ r. r.state) run.new_is ∙ ap (λ o. code_steps (setup_of o.part o.code.tables) o.code.statements ran.done o.state) is

  module _ (fs : Frames) (none new : Noted) (stop : Option StopPlace) (rs : List Remark) (start : fs ≡ no_frames c.tables) (empty : none ≡ nothing_noted c.tables)
      (stop_is : stop ≡ m.state.world.stop) (has : new ≡ noted_behind part.bounds.home none (framed fs (passages first.part c ran.done)))
      (told : rs ≡ remarks_of new stop) where
    noted : new ≡ noted_behind part.bounds.home (nothing_noted c.tables) (framed_steps part c ran.done)
    noted =
        has ∙ ap (λ x. noted_behind part.bounds.home x (framed fs (passages first.part c ran.done))) empty
        ∙ ap (λ x. noted_behind part.bounds.home (nothing_noted c.tables) (framed x (passages first.part c ran.done))) start
        ∙ ap (λ (r : Running). noted_behind part.bounds.home (nothing_noted c.tables) (framed (no_frames c.tables) (passages r.part c ran.done))) is

    by_end : passages part c ran.done ≡ passages part c n → (state_after part c ran.done).world.stop ≡ (state_after part c n).world.stop → rs ≡ meant part c n
    by_end same e =
        told ∙ ap (λ x. remarks_of x stop) (noted ∙ ap (λ ps. noted_behind part.bounds.home (nothing_noted c.tables) (framed (no_frames c.tables) ps)) same)
        ∙ ap (remarks_of (noted_behind part.bounds.home (nothing_noted c.tables) (framed_steps part c n))) (stop_is ∙ ap (λ s. s.world.stop) state ∙ e)

    -- it came to a stop
    pub meant_stopped : ran.end ≡ ends.Stopped → rs ≡ meant part c n
    meant_stopped e =
        let r : RunEnded n (started part c) m ran.done ends.Stopped = subst (λ x. RunEnded n (started part c) m ran.done x) e ended in
        by_end (sym (passages_stopped part c n ran.done r.1.0 r.0 (ap (λ x. x.world.stop) (sym state) ∙ r.1.1)))
        (sym (ap (λ x. x.world.stop) (state_stopped part c n ran.done r.0)))

    -- all steps were taken
    pub meant_counted : ran.end ≡ ends.Count → rs ≡ meant part c n
    meant_counted e =
        let r : RunEnded n (started part c) m ran.done ends.Count = subst (λ x. RunEnded n (started part c) m ran.done x) e ended in
        by_end (ap (passages part c) r.0) (ap (λ k. (state_after part c k).world.stop) r.0)
