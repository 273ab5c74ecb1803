-- The marks of a way.
use Rattle.std.specs.Prelude.{nat_le, Bool, List, [], ◌∷◌, Option, Some, None}
use Rattle.std.specs.List.{list_any}
use Rattle.vcm_marks.specs.declared.mark.Contact.{Contact}
use Rattle.vcm_marks.specs.declared.mark.Mark.{Mark}
use Rattle.vcm_marks.specs.declared.mark.Mark.TheVariants.{Goes, Touches, Meets}
use Rattle.vcm_marks.specs.declared.mark.PlacedMark.{PlacedMark}
use Rattle.vcm_marks.specs.Pieces.{pieces}

-- the contact of a mark, or else that of the marks behind it
abbrev pub contact_or : Mark → Option Contact → Option Contact
contact_or (Goes p) behind = behind
contact_or (Touches t) behind = behind
contact_or (Meets c) behind = Some c

-- the contact of a way
abbrev pub contact_of : List PlacedMark → Option Contact
contact_of [] = None
contact_of (m ∷ ms) = contact_or m.mark (contact_of ms)

-- whether there are few enough pieces for arrows
abbrev pub are_few : List PlacedMark → Bool
are_few marks = nat_le (pieces marks) 500

-- some piece begins elsewhere
abbrev pub begin_elsewhere : List PlacedMark → Bool
begin_elsewhere marks = list_any (λ m. m.is_elsewhere) marks
