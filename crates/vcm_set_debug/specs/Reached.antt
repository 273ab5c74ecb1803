-- How far a run with several probes has come.
use Rattle.std.specs.Prelude.{ℕ, suc, Bool, true, false, List, Option}
use Rattle.vcm_spec.specs.Stepping.{unless_stopped}
use Rattle.vcm_spec.specs.Workpiece.{Workpiece}
use Rattle.vcm_code.specs.declared.code.Code.{Code}
use Rattle.vcm_machine.specs.Running.{Running}
use Rattle.vcm_probe_set.specs.Probes.{Probe}
use Rattle.vcm_turning.specs.declared.ended.NoProbe.{NoProbe}
use Rattle.vcm_turning.specs.Machine.{carrier}
use Rattle.vcm_turning.specs.Turning.{Turned, unless_ended, turned_after}

-- A run with several probes: the workpiece of the part file, the probes, the place of the variable that chooses one, the code, and how many steps were taken so far
pub record Reached : Type 0 where
  pub part : Workpiece
  pub probes : List Probe
  pub variable : ℕ
  pub code : Code
  pub count : ℕ

-- one at the start
abbrev pub at_start : Workpiece → List Probe → (variable : ℕ) → Code → Reached
at_start part ps v c = record { part = part; probes = ps; variable = v; code = c; count = 0 }

-- the same behind so many steps
abbrev pub behind : Reached → ℕ → Reached
behind r n = record r { count = n }

-- its state behind so many steps
abbrev pub state_at : Reached → ℕ → Turned
state_at r n = turned_after r.part r.probes r.variable r.code n

-- its state as it stands
abbrev pub now : Reached → Turned
now r = state_at r r.count

-- the machine that carries out the next statement behind so many steps, beside the workpiece with the tip of the probe that is on
abbrev pub machine_at : Reached → ℕ → Running
machine_at r n = carrier r.part r.probes r.code (state_at r n)

-- why the run ends without a probe behind so many steps that were taken, if it does
abbrev pub lost : Reached → ℕ → Option NoProbe
lost r n = (state_at r (suc n)).ended

-- whether another step is taken behind so many: the run has not stopped there, and doesn't end without a probe
abbrev pub goes : Reached → ℕ → Bool
goes r n = unless_stopped (state_at r n).state.world.stop false (unless_ended (lost r n) false true)
