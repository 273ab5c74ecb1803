-- One more step of a run with several probes, and such a run to its end.
use Rattle.std.proofs.Common.{◌≡◌, ℕ, List, [], ◌∷◌, ◌++◌, length, Option, refl, sym, ap, ◌∙◌, subst}
use Rattle.vcm_spec.specs.declared.stop.StopPlace.{StopPlace}
use Rattle.vcm_spec.specs.Setup.{Tables}
use Rattle.vcm_spec.specs.Workpiece.{Workpiece}
use Rattle.vcm_spec.specs.World.{World}
use Rattle.vcm_code.specs.Code.{CodeStatement}
use Rattle.vcm_code.specs.Checks.{OpFits}
use Rattle.vcm_code.specs.Valid.{IsValid as IsValidCode}
use Rattle.vcm_code.proofs.Checked.{fits_at}
use Rattle.vcm_code.specs.declared.code.Code.{Code}
use Rattle.vcm_trace.specs.Framed.{Frames, no_frames, framed}
use Rattle.vcm_probe_set.specs.Probes.{Probe}
use Rattle.vcm_turning.specs.Following.{IsNextTurned}
use Rattle.vcm_turning.specs.Steps.{TurnedStep, turned_steps}
use Rattle.vcm_turning.specs.Turning.{turned_after}
use Rattle.vcm_meant.specs.declared.remark.Remark.{Remark}
use Rattle.vcm_meant.specs.Noted.{Noted, nothing_noted, noted_behind}
use Rattle.vcm_meant.specs.Meant.{remarks_of}
use Rattle.vcm_meant.specs.Turned.{passages_in, meant_of, meant_behind}

-- the statement that comes next fits its tables
pub fits_there : (fits : Workpiece → List Probe → Code → Type 0) (tables : Tables) (w : World) (on : Option ℕ) (s : CodeStatement) (is : IsNextTurned fits tables w on s)
    → IsValidCode is.machine.code → (count : ℕ) × OpFits tables count s.op
fits_there fits tables w on s is valid =
    let ss = is.machine.code.statements in
    (length ss, subst (λ t. OpFits t (length ss) s.op) is.tables_are (fits_at is.machine.code.tables (length ss) ss is.machine.state.next s valid.fit is.stands))

-- one step more
pub more_passages : (ss : List TurnedStep) (s : TurnedStep) → passages_in (ss ++ s ∷ []) ≡ passages_in ss ++ s.passage ∷ []
more_passages [] s = refl
more_passages (t ∷ ss) s = ap (λ l. t.passage ∷ l) (more_passages ss s)

-- a run that was followed to its end
module _ (blocks part : Workpiece) (ps : List Probe) (v : ℕ) (c : Code) (done : ℕ) (fs : Frames) (none new : Noted) (stop : Option StopPlace) (rs : List Remark) where
  abbrev steps : List TurnedStep
  steps = turned_steps part ps v c done

  abbrev at_end : Option StopPlace
  at_end = (turned_after part ps v c done).state.world.stop

  pub told_turned : part ≡ blocks → fs ≡ no_frames c.tables → none ≡ nothing_noted c.tables → stop ≡ at_end
      → new ≡ noted_behind blocks.bounds.home none (framed fs (passages_in steps)) → rs ≡ remarks_of new stop → rs ≡ meant_behind part ps v c done
  told_turned same start empty stop_is has told =
      let by : new ≡ noted_behind blocks.bounds.home (nothing_noted c.tables) (framed (no_frames c.tables) (passages_in steps)) =
      has ∙ ap (λ x. noted_behind blocks.bounds.home x (framed fs (passages_in steps))) empty
      ∙ ap (λ x. noted_behind blocks.bounds.home (nothing_noted c.tables) (framed x (passages_in steps))) start in
      told ∙ ap (λ x. remarks_of x stop) by ∙ ap (meant_of blocks.bounds.home c.tables steps) stop_is
      ∙ ap (λ (w : Workpiece). meant_of w.bounds.home c.tables steps at_end) (sym same)
