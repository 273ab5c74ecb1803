-- The ways that a step of a run goes, read off its marks: straight lines of the tip's centre, each with the fraction of it that was gone. Up to the
-- contact at which a run stops that is exact.
use Rattle.std.specs.Prelude.{ℕ, ◌-◌, Bool, true, false, if◌then◌else◌, List, [], ◌∷◌, ◌++◌, map, flat_map, slice_get, Option, Some, None, option_and_then}
use Rattle.std.specs.Prelude.{option_to_list, unwrap_or}
use Rattle.vcm_num.specs.declared.point.Point.{Point}
use Rattle.vcm_num.specs.Point.{coordinate}
use Rattle.vcm_spec.specs.Workpiece.{Workpiece, grown}
use Rattle.vcm_spec.specs.FirstContact.{Fraction, fraction, entry}
use Rattle.vcm_code.specs.declared.code.Code.{Code}
use Rattle.vcm_marks.specs.declared.mark.Going.{Going}
use Rattle.vcm_marks.specs.declared.mark.Going.TheVariants.{Rest}
use Rattle.vcm_marks.specs.declared.mark.Mark.{Mark}
use Rattle.vcm_marks.specs.declared.mark.Mark.TheVariants.{Goes, Meets}
use Rattle.vcm_marks.specs.declared.mark.Leg.{Leg}
use Rattle.vcm_marks.specs.declared.mark.Contact.{Contact}
use Rattle.vcm_marks.specs.declared.mark.Moment.{Moment}
use Rattle.vcm_steps.specs.Passages.{Passage, passages}
use Rattle.vcm_way.specs.Ways.{step_marks}

-- a way: how it was gone, from which point to which, and the fraction of it that was gone
pub record Gone : Type 0 where
  pub going : Going
  pub from : Point
  pub to : Point
  pub gone : Fraction

-- a way that was gone whole
abbrev pub whole : Going → Point → Point → Gone
whole how a b = record { going = how; from = a; to = b; gone = fraction 1 1 }

-- the fraction of the way from a to b at which the tip meets the block n, the first being 1; its start, where it does not
abbrev pub contact_fraction : Workpiece → ℕ → Point → Point → Fraction
contact_fraction part n a b =
    unwrap_or (option_and_then (λ block. entry (coordinate a) (coordinate b) (grown part.bounds.tip block)) (slice_get part.blocks (n - 1))) (fraction 0 1)

-- a way that was gone up to the contact with the block n
abbrev pub up_to : Workpiece → Going → Point → Point → ℕ → Gone
up_to part how a b n = record { going = how; from = a; to = b; gone = contact_fraction part n a b }

-- the contact in which a piece ends, by the marks behind it: what is not reached, and then the contact
abbrev pub contact_behind : List Mark → Option Contact
contact_behind (Goes rest ∷ Meets contact ∷ ms) = Some contact
contact_behind _ = None

-- the way of a piece that was gone: whole, or towards the aim up to its contact
abbrev pub way_of : Workpiece → Leg → Option Contact → Gone
way_of part piece None = whole piece.going piece.from piece.to
way_of part piece (Some contact) = up_to part piece.going piece.from contact.aim contact.block

-- whether a piece that is gone so is not gone
abbrev pub is_rest : Going → Bool
is_rest Rest = true
is_rest _ = false

-- the way of the first of these marks, if that is a piece that was gone
abbrev pub first_way : Workpiece → List Mark → Option Gone
first_way part (Goes piece ∷ ms) = if is_rest piece.going then None else Some (way_of part piece (contact_behind ms))
first_way part _ = None

-- the ways among these marks
abbrev pub ways_in : Workpiece → List Mark → List Gone
ways_in part [] = []
ways_in part (m ∷ ms) = option_to_list (first_way part (m ∷ ms)) ++ ways_in part ms

-- a way with its step, counted from 1, and with the number and the line of the step's statement
pub record PlacedWay : Type 0 where
  pub way : Gone
  pub step : ℕ
  pub number : ℕ
  pub line : ℕ

-- ways of one step, with it
abbrev pub placed_at : Moment → List Gone → List PlacedWay
placed_at place ways = map (λ way. record { way = way; step = place.step; number = place.number; line = place.line }) ways

-- the ways of a step, with it
abbrev pub placed_ways : Workpiece → Passage → List PlacedWay
placed_ways part p = placed_at (record { step = p.count; number = p.number; line = p.statement.line }) (ways_in part (step_marks part p))

-- the ways of a run for at most n steps
abbrev pub ways_of : Workpiece → Code → ℕ → List PlacedWay
ways_of part c n = flat_map (placed_ways part) (passages part c n)
