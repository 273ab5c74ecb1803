-- Runs of one code beside two workpieces, step by step: whether they go alike, and what differs first.
use Rattle.std.specs.Prelude.{◌≡◌, ◌≢◌, ℕ, suc, ◌<◌, Option, Some, None, unwrap_or, slice_get}
use Rattle.vcm_spec.specs.declared.feature.Feature.{Feature}
use Rattle.vcm_spec.specs.Setup.{setup_of}
use Rattle.vcm_spec.specs.declared.simple.Simple.TheVariants.{PtMeas}
use Rattle.vcm_spec.specs.Workpiece.{Workpiece}
use Rattle.vcm_code.specs.Code.{CodeStatement, Op}
use Rattle.vcm_code.specs.declared.code.Code.{Code}
use Rattle.vcm_code.specs.declared.op.Op.TheVariants.{Plain}
use Rattle.vcm_code.specs.CodeTable.{CodeState, code_steps, start}
use Rattle.vcm_margin.specs.declared.difference.Difference.{Difference}
use Rattle.vcm_margin.specs.declared.difference.StatementPlace.{StatementPlace}
use Rattle.vcm_margin.specs.declared.difference.Difference.TheVariants.{Stop, Next, Feature as Measured}
use Rattle.vcm_margin.specs.declared.difference.Seen.{Seen}

-- the state of a code beside a workpiece after so many steps
abbrev pub reached : Workpiece → Code → ℕ → CodeState
reached part c n = code_steps (setup_of part c.tables) c.statements n (start (setup_of part c.tables))

-- the feature that a statement measures, if it is PTMEAS
abbrev pub measured_by : Op → Option ℕ
measured_by (Plain (PtMeas i x y z toward)) = Some i
measured_by _ = None

-- the same of a statement that may not be there
abbrev pub measured : Option CodeStatement → Option ℕ
measured (Some s) = measured_by s.op
measured None = None

-- the feature that the step from a state measures
abbrev pub measures : Code → CodeState → Option ℕ
measures c m = measured (slice_get c.statements m.next)

-- the feature with this index as it was measured, if it was
abbrev pub actual_in : CodeState → ℕ → Option Feature
actual_in m i = unwrap_or (slice_get m.world.actual i) None

-- behind a step, which measured a feature or none, two states have the same stop, the same next statement, and that feature alike
pub record IsAlike (which : Option ℕ) (a b : CodeState) : Type 0 where
  pub stop : a.world.stop ≡ b.world.stop
  pub next : a.next ≡ b.next
  pub feature : (i : ℕ) → which ≡ Some i → actual_in a i ≡ actual_in b i

-- a code goes alike beside two workpieces in so many steps
abbrev pub GoAlike : Workpiece → Workpiece → Code → ℕ → Type 0
GoAlike part other c n = (k : ℕ) → k < n → IsAlike (measures c (reached part c k)) (reached part c (suc k)) (reached other c (suc k))

-- the source line of a statement, 0 where there is none
abbrev pub line_in : Option CodeStatement → ℕ
line_in (Some s) = s.line
line_in None = 0

-- the number and the source line of the statement that is next in a state
abbrev pub next_place : Code → CodeState → StatementPlace
next_place c m = record { number = m.next; line = line_in (slice_get c.statements m.next) }

-- behind the step from a state the two states that come of it differ, and this is told of the second one: its stop, where the stops differ; with equal
-- stops the next statement, where these differ; and with both equal the feature that the step measured, where that differs
abbrev pub Differ : Code → CodeState → CodeState → CodeState → Difference → Type 0
Differ c before a b (Stop s) = (a.world.stop ≢ b.world.stop) × (s ≡ b.world.stop)
Differ c before a b (Next n) = (a.world.stop ≡ b.world.stop) × ((a.next ≢ b.next) × (n ≡ b.next))
Differ c before a b (Measured i f place) =
    (a.world.stop ≡ b.world.stop) × ((a.next ≡ b.next) × ((measures c before ≡ Some i)
    × ((place ≡ next_place c before) × ((actual_in a i ≢ actual_in b i) × (f ≡ actual_in b i)))))

-- in so many steps they go alike up to one, behind which they differ so; with it so many were taken, and beside the second workpiece the probe is at this place
pub record DifferFirst (part other : Workpiece) (c : Code) (n : ℕ) (seen : Seen) : Type 0 where
  pub before : ℕ
  pub within : before < n
  pub alike : GoAlike part other c before
  pub differ : Differ c (reached part c before) (reached part c (suc before)) (reached other c (suc before)) seen.what
  pub steps_are : seen.steps ≡ suc before
  pub position_is : seen.position ≡ (reached other c (suc before)).world.position
