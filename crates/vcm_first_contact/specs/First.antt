-- The first contact of a box in a run: the first in the order of the run, of those on one way the one at the least fraction, of equals that of the box that stands first.
use Rattle.std.specs.Prelude.{ℕ, ◌+◌, true, List, [], ◌∷◌, option_map, if◌then◌else◌, Option, Some, None}
use Rattle.vcm_num.specs.Point.{coordinate}
use Rattle.vcm_spec.specs.declared.workpiece.Block3.{Block3}
use Rattle.vcm_spec.specs.FirstContact.{Entered, is_not_after, first_entered}
use Rattle.vcm_spec.specs.Workpiece.{Workpiece}
use Rattle.vcm_code.specs.declared.code.Code.{Code}
use Rattle.vcm_boxes.specs.declared.boxes.ProbeBox.{ProbeBox}
use Rattle.vcm_carried.specs.FirstCarried.{box_entry, contact_at}
use Rattle.vcm_way.specs.Gone.{Gone, PlacedWay, ways_of}
use Rattle.vcm_clearance.specs.Contacts.{told_at}
use Rattle.vcm_first_contact.specs.declared.first.FirstContact.{FirstContact}

-- a box, by its place in the file, counted from 0, and where it enters a block
pub record Met : Type 0 where
  pub index : ℕ
  pub entered : Entered

-- a box that enters this, if it enters something
abbrev pub met_if : ℕ → Option Entered → Option Met
met_if i e = option_map (λ x. record { index = i; entered = x }) e

-- the box of this place on what was gone of a way, if it meets a block there
abbrev pub met_by : List Block3 → Gone → ℕ → Block3 → Option Met
met_by blocks way i box = met_if i (first_entered (box_entry true way.gone box (coordinate way.from) (coordinate way.to)) 1 blocks)

-- the one that is first of two; of two at one fraction the first
abbrev pub sooner_of : Met → Met → Met
sooner_of m n = if is_not_after m.entered.at n.entered.at then m else n

abbrev pub sooner : Option Met → Option Met → Option Met
sooner None later = later
sooner (Some m) None = Some m
sooner (Some m) (Some n) = Some (sooner_of m n)

-- the first of what was found and of these boxes, of which the first has this place
abbrev pub first_of : List Block3 → Gone → Option Met → ℕ → List ProbeBox → Option Met
first_of blocks way found i [] = found
first_of blocks way found i (b ∷ bs) = first_of blocks way (sooner found (met_by blocks way i b.block)) (i + 1) bs

-- what is told of a box on a way
abbrev pub first_at : PlacedWay → Met → FirstContact
first_at p m = record {
  index = m.index;
  told = told_at p (contact_at (coordinate p.way.from) (coordinate p.way.to) m.entered);
  from = p.way.from;
  to = p.way.to;
}

-- the first contact of these boxes on a way
abbrev pub first_on : List Block3 → List ProbeBox → PlacedWay → Option FirstContact
first_on blocks boxes p = option_map (first_at p) (first_of blocks p.way None 0 boxes)

-- the first, if there is one, else the second
abbrev pub or_else : Option FirstContact → Option FirstContact → Option FirstContact
or_else (Some f) later = Some f
or_else None later = later

-- the first contact on these ways
abbrev pub first_in : List Block3 → List ProbeBox → List PlacedWay → Option FirstContact
first_in blocks boxes [] = None
first_in blocks boxes (p ∷ ps) = or_else (first_on blocks boxes p) (first_in blocks boxes ps)

-- that of a run for at most n steps
abbrev pub first_contact : Workpiece → List ProbeBox → Code → ℕ → Option FirstContact
first_contact part boxes c n = first_in part.blocks boxes (ways_of part c n)
