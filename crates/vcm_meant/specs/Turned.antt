-- What is remarked of a run with several probes.
use Rattle.std.specs.Prelude.{◌≡◌, ℕ, ◌≤◌, List, length, map, Option}
use Rattle.vcm_num.specs.declared.point.Point.{Point}
use Rattle.vcm_spec.specs.declared.stop.StopPlace.{StopPlace}
use Rattle.vcm_spec.specs.Setup.{Tables}
use Rattle.vcm_spec.specs.Workpiece.{Workpiece}
use Rattle.vcm_code.specs.declared.code.Code.{Code}
use Rattle.vcm_steps.specs.Passages.{Passage}
use Rattle.vcm_trace.specs.Framed.{no_frames, framed}
use Rattle.vcm_probe_set.specs.Probes.{Probe}
use Rattle.vcm_turning.specs.declared.ended.Ended.{Ended}
use Rattle.vcm_turning.specs.declared.ended.Ended.TheVariants.{NoMemory}
use Rattle.vcm_turning.specs.Machine.{TurningEnded}
use Rattle.vcm_turning.specs.Steps.{TurnedStep, turned_steps}
use Rattle.vcm_turning.specs.Turning.{turned_after}
use Rattle.vcm_meant.specs.declared.remark.Remark.{Remark}
use Rattle.vcm_meant.specs.Noted.{nothing_noted, noted_behind}
use Rattle.vcm_meant.specs.Meant.{remarks_of}

-- steps as those of the code alone
abbrev pub passages_in : List TurnedStep → List Passage
passages_in ss = map (λ s. s.passage) ss

-- what is remarked of these steps on a machine with this home, where the run has come to this stop, if it came to one
abbrev pub meant_of : (home : Point) → Tables → List TurnedStep → Option StopPlace → List Remark
meant_of home tables ss stop = remarks_of (noted_behind home (nothing_noted tables) (framed (no_frames tables) (passages_in ss))) stop

-- what is remarked behind so many steps
abbrev pub meant_behind : Workpiece → List Probe → (variable : ℕ) → Code → (done : ℕ) → List Remark
meant_behind part ps v c done = meant_of part.bounds.home c.tables (turned_steps part ps v c done) (turned_after part ps v c done).state.world.stop

-- this is what is remarked of a run for at most n steps, behind all that it took; memory was not refused to it
pub record IsMeantTurned (n : ℕ) (part : Workpiece) (ps : List Probe) (variable : ℕ) (c : Code) (rs : List Remark) : Type 0 where
  pub done : ℕ
  pub end : Ended
  pub few : done ≤ n
  pub each : length (turned_steps part ps variable c done) ≡ done
  pub ended : TurningEnded n part ps variable c done end
  pub ample : end ≡ NoMemory → ⊥
  pub told : rs ≡ meant_behind part ps variable c done
