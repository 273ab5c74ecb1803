-- How a run with several probes ends.
use Rattle.std.specs.Prelude.{◌≡◌, ℕ, ◌+◌, ◌<◌, ◌≤◌, List, length, Option, IfSome}
use Rattle.vcm_spec.specs.declared.stop.StopPlace.{StopPlace}
use Rattle.vcm_spec.specs.Setup.{Tables}
use Rattle.vcm_report.specs.Printed.{end_line}
use Rattle.vcm_turning.specs.declared.ended.NoProbe.{NoProbe}
use Rattle.vcm_turning.specs.declared.ended.Ended.{Ended}
use Rattle.vcm_turning.specs.declared.ended.Ended.TheVariants.{NoMemory, Lost}
use Rattle.vcm_turning.specs.Machine.{TurningEnded}
use Rattle.vcm_set_debug.specs.Telling as line
use Rattle.vcm_set_views.specs.declared.ends.SetEnd.{SetEnd}
use Rattle.vcm_set_views.specs.declared.running.Ending.{Ending}
use Rattle.vcm_set_views.specs.Fit.{Fit, steps_of, behind}

-- a run for at most n steps has ended so, and not by want of memory: so many steps were taken, and this is the stop that it came to, if it did
pub record HasEnded (f : Fit) (n : ℕ) (e : SetEnd) : Type 0 where
  pub ended : TurningEnded n f.part f.probes f.variable f.code e.done e.end
  pub ample : e.end ≡ NoMemory → ⊥
  pub few : e.done ≤ n
  pub each : length (steps_of f e.done) ≡ e.done
  pub stop_is : e.stop ≡ (behind f e.done).state.world.stop

-- it has, and this is the state of the machine there
pub record IsAtEnd (f : Fit) (n : ℕ) (e : Ending) : Type 0 where
  pub ended : HasEnded f n e.end
  pub state : e.world.state ≡ (behind f e.end.done).state.world
  pub tables : e.world.tables ≡ f.code.tables
  pub next : e.next ≡ (behind f e.end.done).state.next
  pub within : e.next < length f.code.statements
  pub on : e.on ≡ (behind f e.end.done).on
  pub there : IfSome e.on (λ i. i < length f.probes)

-- the line of a run that ends before a step, since no probe with the number is on: no probe 5 at 12 line 30 step 9
abbrev pub no_probe_line : NoProbe → (step : ℕ) → List ℕ
no_probe_line l step = line.no_probe_line l step

-- that line, or the one of the stop, or of so many steps without one
abbrev pub ended_line : Tables → Ended → Option StopPlace → (done : ℕ) → List ℕ
ended_line tables (Lost l) stop done = no_probe_line l (done + 1)
ended_line tables end stop done = end_line tables stop done
