-- What the marks of a way mean.
use Rattle.std.specs.Prelude.{◌≡◌, ◌<◌, ℕ, ◌+◌, IsTrue, List, [], ◌∷◌, Option, Some, None}
use Rattle.vcm_num.specs.declared.axis.Axis.{Axis}
use Rattle.vcm_num.specs.declared.point.Point.{Point}
use Rattle.vcm_num.specs.Axis.{along}
use Rattle.vcm_num.specs.Point.{coordinate}
use Rattle.vcm_spec.specs.declared.stop.Stop.{Stop}
use Rattle.vcm_spec.specs.declared.stop.Stop.TheVariants.{Travel, Collision, Missed}
use Rattle.vcm_spec.specs.declared.workpiece.Block3.{Block3}
use Rattle.vcm_spec.specs.Workpiece.{Workpiece, is_blocked}
use Rattle.vcm_spec.specs.Contact.{TipMeets, TipMeetsLater, IsFirst, IsClear}
use Rattle.vcm_spec.specs.FirstContact.{Fraction}
use Rattle.vcm_spec.specs.Outcome.{point_of}
use Rattle.vcm_motion.specs.Places.{point_on_way}
use Rattle.vcm_marks.specs.declared.mark.Going.{Going}
use Rattle.vcm_marks.specs.declared.mark.Going.TheVariants.{Search, Retract, Rest}
use Rattle.vcm_marks.specs.declared.mark.Mark.{Mark}
use Rattle.vcm_marks.specs.declared.mark.Mark.TheVariants.{Goes, Touches, Meets}
use Rattle.vcm_marks.specs.declared.mark.Leg.{Leg}
use Rattle.vcm_marks.specs.declared.mark.Contact.{Contact}
use Rattle.vcm_marks.specs.declared.mark.Touched.{Touched}

-- ---- pieces hang together

-- each piece of these marks begins where the one before it ends, the first at the point a; the last ends at the point b
abbrev pub Hang : Point → List Mark → Point → Type 0
Hang a [] b = a ≡ b
Hang a (Goes piece ∷ ms) b = (piece.from ≡ a) × Hang piece.to ms b
Hang a (Touches t ∷ ms) b = Hang a ms b
Hang a (Meets c ∷ ms) b = Hang a ms b

-- this stop, or none, is no stop of a motion, so the probe is where its last piece ends
abbrev pub IsNoMotion : Option Stop → Type 0
IsNoMotion None = Unit {0}
IsNoMotion (Some (Travel phase)) = ⊥
IsNoMotion (Some (Collision phase hit)) = ⊥
IsNoMotion (Some Missed) = ⊥
IsNoMotion (Some _) = Unit {0}

-- ---- pieces are clear

-- the fractions of the way from a to b at which the tip meets a block; on the way back from a touch its start is left out
abbrev pub met_on : Workpiece → Going → Point → Point → Block3 → ℕ → ℕ → Type 0
met_on part Retract a b = TipMeetsLater part.bounds.tip (coordinate a) (coordinate b)
met_on part _ a b = TipMeets part.bounds.tip (coordinate a) (coordinate b)

-- the search goes down along an axis, and the tip meets no block before its end
pub record IsSearch (part : Workpiece) (piece : Leg) : Type 0 where
  pub axis : Axis
  pub distance : ℕ
  pub end : piece.to ≡ point_of (along (coordinate piece.from) axis distance)
  pub clear : (t : ℕ) → t < distance → ¬ IsTrue (is_blocked part (along (coordinate piece.from) axis t))

-- the tip meets no block on a piece that is gone as far as its aim, or in a search none before its end
abbrev pub IsClearBy : Workpiece → Leg → Going → Type 0
IsClearBy part piece Search = IsSearch part piece
IsClearBy part piece Rest = Unit {0}
IsClearBy part piece going = IsClear part.blocks (met_on part going piece.from piece.aim)

-- a piece is clear by the way it is gone
abbrev pub IsClearPiece : Workpiece → Leg → Type 0
IsClearPiece part piece = IsClearBy part piece piece.going

-- ---- touches and contacts

-- at the end of the search the tip meets a block, and the touched point is the middle of its face there
pub record IsTouched (part : Workpiece) (search : Leg) (touched : Touched) : Type 0 where
  pub searched : IsSearch part search
  pub met : IsTrue (is_blocked part (coordinate search.to))
  pub at : touched.at ≡ point_of (along (coordinate search.to) searched.axis part.bounds.tip)

-- on its way to the aim the tip meets this block first, at the fraction at which its centre stands at the contact; the piece that is gone ends there,
-- and what is not reached is the rest
pub record IsContact (part : Workpiece) (gone rest : Leg) (contact : Contact) : Type 0 where
  pub fraction : Fraction
  pub index : ℕ
  pub number : contact.block ≡ index + 1
  pub first : IsFirst part.blocks (met_on part gone.going contact.from contact.aim) index fraction.num fraction.den
  pub stands : contact.at ≡ point_on_way fraction (coordinate contact.from) (coordinate contact.aim)
  pub from : gone.from ≡ contact.from
  pub to : gone.to ≡ contact.at
  pub left : rest.from ≡ contact.at
  pub aim : rest.to ≡ contact.aim

-- each mark is what it shows
abbrev pub AreTrue : Workpiece → List Mark → Type 0
AreTrue part [] = Unit {0}
AreTrue part (Goes gone ∷ Goes rest ∷ Meets contact ∷ ms) = IsContact part gone rest contact × AreTrue part ms
AreTrue part (Goes search ∷ Touches touched ∷ ms) = IsTouched part search touched × AreTrue part ms
AreTrue part (Goes piece ∷ ms) = IsClearPiece part piece × AreTrue part ms
AreTrue part (Touches touched ∷ ms) = ⊥
AreTrue part (Meets contact ∷ ms) = ⊥
