-- A run that was followed to its end.
use Rattle.std.proofs.Common.{◌≡◌, ℕ, Option, sym, ap, ◌∙◌, subst}
use Rattle.vcm_spec.specs.declared.stop.StopPlace.{StopPlace}
use Rattle.vcm_spec.specs.Workpiece.{Workpiece}
use Rattle.vcm_spec.specs.Setup.{setup_of}
use Rattle.vcm_code.specs.declared.code.Code.{Code}
use Rattle.vcm_code.specs.CodeTable.{code_steps}
use Rattle.vcm_machine.specs.declared.ran.Ran.{Ran}
use Rattle.vcm_machine.specs.declared.ran.End.TheVariants as ends
use Rattle.vcm_machine.specs.Running.{Running, started, later, HasRun, RunEnded}
use Rattle.vcm_steps.specs.Passages.{passages, state_after}
use Rattle.vcm_trace.specs.Framed.{Frames, no_frames, framed}
use Rattle.vcm_trace.specs.Rows.{framed_steps}
use Rattle.vcm_steps.proofs.PassageLemmas.{passages_stopped, state_stopped}
use Rattle.vcm_summary.specs.declared.findings.Findings.{Findings}
use Rattle.vcm_summary.specs.Findings.{nothing_found, found_behind, found_in}
use Rattle.vcm_summary.specs.Summary.{IsSummed}

-- what was found in a run from its start
pub has_found : (from : ℕ) (part : Workpiece) (c : Code) (first : Running) → first ≡ started part c → (done : ℕ) (fs : Frames) (none f : Findings) → fs ≡ no_frames c.tables
    → none ≡ nothing_found → f ≡ found_behind from none (framed fs (passages first.part c done)) → f ≡ found_in from (framed_steps part c done)
has_found from part c first is done fs none f start empty has =
    has ∙ ap (λ x. found_behind from x (framed fs (passages first.part c done))) empty ∙ ap (λ x. found_in from (framed x (passages first.part c done))) start ∙ ap (λ (r : Running). found_in from (framed (no_frames c.tables) (passages r.part c done))) is

module _ (part : Workpiece) (c : Code) (n : ℕ) (first m : Running) (ran : Ran) (is : first ≡ started part c) (run : HasRun n first m ran) where
  ended : RunEnded n (started part c) m ran.done ran.end
  ended = subst (λ o. RunEnded n o m ran.done ran.end) is run.ended

  state : m.state ≡ state_after part c ran.done
  state = ap (λ r. r.state) run.new_is ∙ ap (λ o. code_steps (setup_of o.part o.code.tables) o.code.statements ran.done o.state) is

  -- memory was refused to a step
  pub halted : ran.end ≡ ends.NoMemory → RunEnded n (started part c) (later ran.done (started part c)) ran.done ends.NoMemory
  halted e =
      subst (λ o. RunEnded n (started part c) (later ran.done o) ran.done ends.NoMemory) is
      (subst (λ r. RunEnded n (started part c) r ran.done ends.NoMemory) run.new_is (subst (λ x. RunEnded n (started part c) m ran.done x) e ended))

  module _ (from : ℕ) (stop : Option StopPlace) (f : Findings) (stop_is : stop ≡ m.state.world.stop) (found : f ≡ found_in from (framed_steps part c ran.done)) where
    -- it came to a stop
    pub summed_stopped : ran.end ≡ ends.Stopped → IsSummed part c n from (record { stop = stop; done = ran.done; findings = f })
    summed_stopped e =
        let r : RunEnded n (started part c) m ran.done ends.Stopped = subst (λ x. RunEnded n (started part c) m ran.done x) e ended in record {
          stop = stop_is ∙ ap (λ x. x.world.stop) state ∙ sym (ap (λ x. x.world.stop) (state_stopped part c n ran.done r.0));
          done = r.0;
          findings = found ∙ ap (λ ps. found_in from (framed (no_frames c.tables) ps)) (sym (passages_stopped part c n ran.done r.1.0 r.0 (ap (λ x. x.world.stop) (sym state) ∙ r.1.1)));
        }

    -- all steps were taken
    pub summed_counted : ran.end ≡ ends.Count → IsSummed part c n from (record { stop = stop; done = ran.done; findings = f })
    summed_counted e =
        let r : RunEnded n (started part c) m ran.done ends.Count = subst (λ x. RunEnded n (started part c) m ran.done x) e ended in record {
          stop = stop_is ∙ ap (λ x. x.world.stop) state ∙ ap (λ k. (state_after part c k).world.stop) r.0;
          done = r.0 ∙ r.1;
          findings = found ∙ ap (λ k. found_in from (framed_steps part c k)) r.0;
        }
