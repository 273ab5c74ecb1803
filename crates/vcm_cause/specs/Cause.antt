-- What a stop in a motion tells of it, from the marks that its step adds to the way.
use Rattle.std.specs.Prelude.{◌-◌, List, length, slice_get, Option, Some, None}
use Rattle.vcm_spec.specs.declared.workpiece.Block3.{Block3}
use Rattle.vcm_spec.specs.Workpiece.{Workpiece}
use Rattle.vcm_marks.specs.declared.mark.Contact.{Contact}
use Rattle.vcm_marks.specs.declared.mark.Mark.{Mark}
use Rattle.vcm_marks.specs.declared.mark.Mark.TheVariants.{Goes, Touches, Meets}
use Rattle.vcm_cause.specs.declared.cause.Cause.{Cause}
use Rattle.vcm_cause.specs.declared.cause.Cause.TheVariants.{Elsewhere, Way, Met}
use Rattle.vcm_cause.specs.Free.{over, beside}

-- a contact with this block
abbrev pub met_with : Workpiece → Contact → Option Block3 → Cause
met_with part c None = Way c.from c.aim
met_with part c (Some block) =
    Met (record { contact = c; block = block; over = over part.bounds block; beside = beside part.bounds block c.from c.aim })

-- a contact
abbrev pub met : Workpiece → Contact → Cause
met part c = met_with part c (slice_get part.blocks (c.block - 1))

-- what a mark tells: a contact its block, a piece the way from its start to its aim
abbrev pub cause_by : Workpiece → Mark → Cause
cause_by part (Goes piece) = Way piece.from piece.aim
cause_by part (Touches touched) = Elsewhere
cause_by part (Meets c) = met part c

-- what a mark tells, if there is one
abbrev pub cause_if : Workpiece → Option Mark → Cause
cause_if part None = Elsewhere
cause_if part (Some mark) = cause_by part mark

-- what the last of these marks tells
abbrev pub cause_of : Workpiece → List Mark → Cause
cause_of part marks = cause_if part (slice_get marks (length marks - 1))
