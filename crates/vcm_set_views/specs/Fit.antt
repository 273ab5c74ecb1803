-- What a run with several probes is made with.
use Rattle.std.specs.Prelude.{◌≡◌, ℕ, List, Some}
use Rattle.vcm_spec.specs.Workpiece.{Workpiece}
use Rattle.vcm_code.specs.declared.code.Code.{Code}
use Rattle.vcm_probe_set.specs.Parts.{why_unfit}
use Rattle.vcm_probe_set.specs.Probes.{Probe, Probes}
use Rattle.vcm_set_clearance.specs.declared.parts.SetFault.{SetFault}
use Rattle.vcm_set_clearance.specs.declared.parts.SetFault.TheVariants.{NoMemory, Unfit, NoVariable}
use Rattle.vcm_turning.specs.Choosing.{chooser, part_by}
use Rattle.vcm_turning.specs.Turning.{Turned, turned_after}
use Rattle.vcm_turning.specs.Steps.{TurnedStep, turned_steps}

-- the workpiece of the part file, the probes, the place of the variable that chooses one, and the code
pub record Fit : Type 0 where
  pub part : Workpiece
  pub probes : List Probe
  pub variable : ℕ
  pub code : Code

-- these, with the variable of this place
abbrev pub fit_of : Workpiece → Probes → Code → ℕ → Fit
fit_of part set c v = record { part = part; probes = set.probes; variable = v; code = c }

-- with the variable that the probes name
abbrev pub IsFitted : Workpiece → Probes → Code → Fit → Type 0
IsFitted part set c f = (v : ℕ) × (chooser set.variable c.tables.variables ≡ Some v) × (f ≡ fit_of part set c v)

-- why there is none with a variable of a place: memory was refused, or the probes can't be tried beside the workpiece
abbrev pub IsUnfit : Workpiece → Probes → SetFault → Type 0
IsUnfit part set NoMemory = Unit {0}
IsUnfit part set (Unfit u) = why_unfit part set.probes ≡ Some u
IsUnfit part set NoVariable = ⊥

-- the steps of its run for at most n steps, and the state behind them
abbrev pub steps_of : Fit → ℕ → List TurnedStep
steps_of f n = turned_steps f.part f.probes f.variable f.code n

abbrev pub behind : Fit → ℕ → Turned
behind f n = turned_after f.part f.probes f.variable f.code n

-- the workpiece with the tip that is on behind so many steps
abbrev pub part_behind : Fit → ℕ → Workpiece
part_behind f n = part_by f.part f.probes (behind f n).on
