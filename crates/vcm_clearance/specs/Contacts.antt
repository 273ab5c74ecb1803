-- What bodies that are fixed to the tip meet on the ways of a run.
use Rattle.std.specs.Prelude.{◌≡◌, ℕ, Bool, true, List, Option, Some, None, is_some}
use Rattle.vcm_num.specs.Point.{coordinate}
use Rattle.vcm_spec.specs.declared.workpiece.Block3.{Block3}
use Rattle.vcm_spec.specs.Contact.{IsClear}
use Rattle.vcm_carried.specs.declared.contact.Contact.{Contact}
use Rattle.vcm_carried.specs.Bodies.{BodyMeetsBy, body_contact}
use Rattle.vcm_marks.specs.declared.mark.Moment.{Moment}
use Rattle.vcm_way.specs.declared.gone.Gone.{Gone as Went}
use Rattle.vcm_way.specs.Gone.{Gone, PlacedWay}
use Rattle.vcm_way.specs.Seen.{IsSameWay, seen}
use Rattle.vcm_clearance.specs.declared.told.Told.{Told}

-- at which fractions a box of the body meets a block on a way: those that were gone
abbrev pub MeetsOn : Gone → List Block3 → Block3 → ℕ → ℕ → Type 0
MeetsOn way body = BodyMeetsBy way.gone body (coordinate way.from) (coordinate way.to)

-- at no fraction of the way that was gone, some point of the body lies in a block
abbrev pub IsClearOn : List Block3 → List Block3 → Gone → Type 0
IsClearOn blocks body way = IsClear blocks (MeetsOn way body)

-- the first contact of the body on a way, of all blocks, or of those that it enters there
abbrev pub contact_on : List Block3 → Bool → List Block3 → Gone → Option Contact
contact_on blocks with_start body way = body_contact with_start way.gone body (coordinate way.from) (coordinate way.to) blocks

-- whether the body meets a block on a way
abbrev pub is_met_on : List Block3 → List Block3 → Gone → Bool
is_met_on blocks body way = is_some (contact_on blocks true body way)

-- a contact with its way
abbrev pub told_at : PlacedWay → Contact → Told
told_at p contact = record { going = p.way.going; step = p.step; number = p.number; line = p.line; contact = contact }

-- a contact with its way, if there is one
abbrev pub told_if : PlacedWay → Option Contact → Option Told
told_if p None = None
told_if p (Some contact) = Some (told_at p contact)

-- what is told of a body on a way of a run: on the first one the first contact of all blocks, later of those that it enters
abbrev pub told_on : List Block3 → Bool → List Block3 → PlacedWay → Option Told
told_on blocks is_first body p = told_if p (contact_on blocks is_first body p.way)

-- the way of the code at a place is this way of the run
pub record IsPlaced (place : Moment) (v : Went) (p : PlacedWay) : Type 0 where
  pub way : IsSameWay (seen v) p.way
  pub step : p.step ≡ place.step
  pub number : p.number ≡ place.number
  pub line : p.line ≡ place.line
