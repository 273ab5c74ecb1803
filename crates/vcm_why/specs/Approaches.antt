-- The greatest approach with which the way to the approach point is free of the block that was met.
use Rattle.std.specs.Prelude.{ℕ, pos, ◌-◌, List, [], ◌++◌, slice_get, option_map, option_and_then, Option, Some, None, codes}
use Rattle.vcm_num.specs.declared.axis.Axis.{Axis}
use Rattle.vcm_num.specs.Texts.{thousandths}
use Rattle.vcm_spec.specs.declared.feature.Feature.{Feature}
use Rattle.vcm_spec.specs.declared.simple.Simple.TheVariants.{PtMeas}
use Rattle.vcm_spec.specs.declared.workpiece.Block3.{Block3}
use Rattle.vcm_spec.specs.Frame.{direction}
use Rattle.vcm_spec.specs.Workpiece.{Workpiece}
use Rattle.vcm_spec.specs.World.{World}
use Rattle.vcm_code.specs.Code.{Op}
use Rattle.vcm_code.specs.declared.op.Op.TheVariants.{Plain}
use Rattle.vcm_marks.specs.declared.mark.Contact.{Contact}
use Rattle.vcm_cause.specs.declared.approach.ApproachWay.{ApproachWay}
use Rattle.vcm_cause.specs.declared.cause.Cause.{Cause}
use Rattle.vcm_cause.specs.declared.cause.Cause.TheVariants.{Elsewhere, Way, Met}
use Rattle.vcm_cause.specs.Approach.{free_approach}

-- the direction of a feature, if it is declared
abbrev pub direction_in : Option (Option Feature) → Option Axis
direction_in (Some (Some f)) = Some f.toward
direction_in (Some None) = None
direction_in None = None

abbrev pub declared_direction : World → ℕ → Option Axis
declared_direction w i = direction_in (slice_get w.nominal i)

-- the direction in which a PTMEAS measures: the given one, or else that of the declared feature
abbrev pub given_or : World → ℕ → Option Axis → Option Axis
given_or w i (Some d) = Some d
given_or w i None = declared_direction w i

-- the direction of the part in which a statement measures, if it measures
abbrev pub measured_in : World → Op → Option Axis
measured_in w (Plain (PtMeas i x y z given)) = given_or w i given
measured_in w op = None

-- that of the machine
abbrev pub toward_of : World → Op → Option Axis
toward_of w op = option_map (direction w.frame.turn) (measured_in w op)

-- the greatest approach that is free
abbrev pub approach_text : ℕ → List ℕ
approach_text n = codes "an approach of " ++ (thousandths (pos n) ++ codes " at most is free of it\n")

-- the same, if there is one
abbrev pub approach_line : Option ℕ → List ℕ
approach_line None = []
approach_line (Some n) = approach_text n

-- the way of a contact, to the approach point that lies so far out in this direction
abbrev pub approach_way : World → Contact → Axis → ApproachWay
approach_way w c d = record { from = c.from; aim = c.aim; toward = d; distance = w.settings.approach }

-- the greatest approach with which a way is free of a block
unfoldable pub free_of : ℕ → Block3 → ApproachWay → Option ℕ
free_of tip block way = free_approach tip block way

-- the same of the block with this number
abbrev pub free_with : Workpiece → (block : ℕ) → ApproachWay → Option ℕ
free_with part n way = option_and_then (λ block. free_of part.bounds.tip block way) (slice_get part.blocks (n - 1))

-- the same of a contact on the way to the approach point of a measurement in this direction
abbrev pub approach_at : Workpiece → World → Contact → Option Axis → Option ℕ
approach_at part w c toward = option_and_then (λ d. free_with part c.block (approach_way w c d)) toward

-- of a collision at a statement that does this
abbrev pub approach_lines : Workpiece → World → Op → Cause → List ℕ
approach_lines part w op Elsewhere = []
approach_lines part w op (Way from to) = []
approach_lines part w op (Met met) = approach_line (approach_at part w met.contact (toward_of w op))
