-- The backtrace of a statement where a run that was watched stands.
use Rattle.std.proofs.Common.{◌≡◌, ℕ, List, Option, Some, refl, sym, ap, ◌∙◌}
use Rattle.vcm_spec.specs.Workpiece.{Workpiece}
use Rattle.vcm_code.specs.declared.code.Code.{Code}
use Rattle.vcm_code.specs.CodeTable.{CodeState}
use Rattle.vcm_machine.specs.declared.ran.End.{End}
use Rattle.vcm_machine.specs.declared.ran.End.TheVariants as ends
use Rattle.vcm_machine.specs.declared.ran.Ran.{Ran}
use Rattle.vcm_machine.specs.Running.{started, RunEnded}
use Rattle.vcm_state.specs.Held.{Held}
use Rattle.vcm_steps.specs.Passages.{Passage, passages, state_after}
use Rattle.vcm_steps.proofs.PassageLemmas.{state_stopped, passages_stopped}
use Rattle.vcm_cause.specs.declared.watching.Progress.{Progress}
use Rattle.vcm_cause.specs.Behind.{Behind, behind, before_steps, behind_run}
use Rattle.vcm_cause.specs.Watched.{HasWatched}
use Rattle.vcm_backtrace.specs.Sources.{Sourced}
use Rattle.vcm_backtrace.specs.Backtrace.{backtrace_lines, backtrace_at}

module _ (s : Option Sourced) (part : Workpiece) (c : Code) (n : ℕ) (world : Held) (next : ℕ) (ran : Ran) (progress : Progress) (w : HasWatched part c n world next ran progress) (number : ℕ) where
  abbrev done : ℕ
  done = ran.done

  state : w.new.state ≡ state_after part c done
  state = ap (λ r. r.state) w.has_run.new_is

  at_done : backtrace_lines s c.statements world.tables world.state.variables progress.rounds number ≡ backtrace_at s part c done number
  at_done =
      ap (λ t. backtrace_lines s c.statements t world.state.variables progress.rounds number) w.tables
      ∙ ap (λ v. backtrace_lines s c.statements c.tables v progress.rounds number) (ap (λ x. x.variables) w.state ∙ ap (λ (m : CodeState). m.world.variables) state)
      ∙ ap (λ r. backtrace_lines s c.statements c.tables (state_after part c done).world.variables r number) (ap (λ (b : Behind). b.rounds) w.behind)

  by_end : (end : End) → RunEnded n (started part c) w.new done end → (end ≡ ends.NoMemory → ⊥) → backtrace_at s part c done number ≡ backtrace_at s part c n number
  by_end ends.NoMemory r ample = absurd (ample refl)
  by_end ends.Stopped r ample =
      let here : (state_after part c done).world.stop ≡ Some r.1.0 = ap (λ (m : CodeState). m.world.stop) (sym state) ∙ r.1.1 in
      ap (λ (m : CodeState). backtrace_lines s c.statements c.tables m.world.variables (behind_run part c done).rounds number) (sym (state_stopped part c n done r.0))
      ∙ ap (λ (ps : List Passage). backtrace_lines s c.statements c.tables (state_after part c n).world.variables (behind part before_steps ps).rounds number)
      (sym (passages_stopped part c n done r.1.0 r.0 here))
  by_end ends.Count r ample = ap (λ k. backtrace_at s part c k number) r.0

  pub at_end : (ran.end ≡ ends.NoMemory → ⊥) → backtrace_lines s c.statements world.tables world.state.variables progress.rounds number ≡ backtrace_at s part c n number
  at_end ample = at_done ∙ by_end ran.end w.has_run.ended ample
