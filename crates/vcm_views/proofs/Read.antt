-- Steps that are read one after another.
use Rattle.std.proofs.Common.{◌≡◌, ◌∙◌, ℕ, List, [], ◌∷◌, ◌++◌, refl, sym, ap, subst}
use Rattle.vcm_spec.specs.Workpiece.{Workpiece}
use Rattle.vcm_code.specs.declared.code.Code.{Code}
use Rattle.vcm_code.specs.CodeTable.{code_steps}
use Rattle.vcm_spec.specs.Setup.{setup_of}
use Rattle.vcm_machine.specs.declared.ran.Ran.{Ran}
use Rattle.vcm_machine.specs.declared.ran.End.TheVariants as ends
use Rattle.vcm_machine.specs.Running.{Running, started, HasRun, RunEnded}
use Rattle.vcm_steps.specs.Passages.{Passage, passages, state_after}
use Rattle.vcm_steps.proofs.PassageLemmas.{passages_stopped}
use Rattle.vcm_sheet.specs.declared.readings.Reading.{Reading}
use Rattle.vcm_trace.specs.Framed.{Frames, FramedStep, framed_step, no_frames, frames_with, frames_behind, framed}
use Rattle.vcm_trace.specs.Rows.{framed_steps}
use Rattle.vcm_trace.proofs.FramedLemmas.{behind_more, framed_more}
use Rattle.vcm_views.specs.Readings.{read_one, readings_behind}

more : (from : ℕ) (rs : List Reading) (ss : List FramedStep) (s : FramedStep) → readings_behind from rs (ss ++ s ∷ []) ≡ read_one from (readings_behind from rs ss) s
more from rs [] s = refl
more from rs (t ∷ ss) s = more from (read_one from rs t) ss s

pub read_more : (from : ℕ) (rs : List Reading) (fs : Frames) (ps : List Passage) (p : Passage)
    → readings_behind from rs (framed fs (ps ++ p ∷ [])) ≡ read_one from (readings_behind from rs (framed fs ps)) (framed_step (frames_behind fs ps) p)
read_more from rs fs ps p = ap (readings_behind from rs) (framed_more fs ps p) ∙ more from rs (framed fs ps) (framed_step (frames_behind fs ps) p)

-- one step more
module _ (from : ℕ) (first old new : List Reading) (fs kept after : Frames) (ps : List Passage) (p : Passage) (k : kept ≡ frames_behind fs ps) where
  pub one_kept : after ≡ frames_with kept p → after ≡ frames_behind fs (ps ++ p ∷ [])
  one_kept e = e ∙ ap (λ x. frames_with x p) k ∙ sym (behind_more fs ps p)

  pub one_read : old ≡ readings_behind from first (framed fs ps) → new ≡ read_one from old (framed_step kept p)
      → new ≡ readings_behind from first (framed fs (ps ++ p ∷ []))
  one_read h e = e ∙ ap (λ l. read_one from l (framed_step kept p)) h ∙ ap (λ x. read_one from (readings_behind from first (framed fs ps)) (framed_step x p)) k ∙ sym (read_more from first fs ps p)

-- the steps of a run that was followed to its end
module _ (part : Workpiece) (c : Code) (n : ℕ) (first m : Running) (ran : Ran) (is : first ≡ started part c) (run : HasRun n first m ran) where
  ended : RunEnded n (started part c) m ran.done ran.end
  ended = subst (λ o. RunEnded n o m ran.done ran.end) is run.ended

  state : m.state ≡ state_after part c ran.done
  state = ap (λ r. r.state) run.new_is ∙ ap (λ o. code_steps (setup_of o.part o.code.tables) o.code.statements ran.done o.state) is

  -- it came to a stop
  all_stopped : ran.end ≡ ends.Stopped → passages part c ran.done ≡ passages part c n
  all_stopped e =
      let r : RunEnded n (started part c) m ran.done ends.Stopped = subst (λ x. RunEnded n (started part c) m ran.done x) e ended in
      sym (passages_stopped part c n ran.done r.1.0 r.0 (ap (λ x. x.world.stop) (sym state) ∙ r.1.1))

  -- all steps were taken
  all_counted : ran.end ≡ ends.Count → passages part c ran.done ≡ passages part c n
  all_counted e =
      let r : RunEnded n (started part c) m ran.done ends.Count = subst (λ x. RunEnded n (started part c) m ran.done x) e ended in
      ap (passages part c) r.0

  module _ (from : ℕ) (none new : List Reading) (fs : Frames) (empty : none ≡ []) (start : fs ≡ no_frames c.tables)
      (has : new ≡ readings_behind from none (framed fs (passages first.part c ran.done))) where
    read : new ≡ readings_behind from [] (framed_steps part c ran.done)
    read =
        has ∙ ap (λ l. readings_behind from l (framed fs (passages first.part c ran.done))) empty ∙ ap (λ x. readings_behind from [] (framed x (passages first.part c ran.done))) start
        ∙ ap (λ r. readings_behind from [] (framed (no_frames c.tables) (passages r.part c ran.done))) is

    pub read_stopped : ran.end ≡ ends.Stopped → new ≡ readings_behind from [] (framed_steps part c n)
    read_stopped e = read ∙ ap (λ ps. readings_behind from [] (framed (no_frames c.tables) ps)) (all_stopped e)

    pub read_counted : ran.end ≡ ends.Count → new ≡ readings_behind from [] (framed_steps part c n)
    read_counted e = read ∙ ap (λ ps. readings_behind from [] (framed (no_frames c.tables) ps)) (all_counted e)
