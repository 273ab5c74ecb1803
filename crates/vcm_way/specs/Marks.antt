-- What a straight move and a measurement add to the way, by their stop.
use Rattle.std.specs.Prelude.{ℕ, ◌-◌, ℤ, List, [], ◌∷◌, slice_get, Option, Some, None, option_and_then, unwrap_or}
use Rattle.std.specs.Int.{int_min, int_max}
use Rattle.vcm_num.specs.declared.axis.Axis.{Axis}
use Rattle.vcm_num.specs.declared.point.Point.{Point}
use Rattle.vcm_num.specs.Point.{coordinate}
use Rattle.vcm_spec.specs.declared.stop.Stop.{Stop}
use Rattle.vcm_spec.specs.declared.stop.Stop.TheVariants.{Collision, Travel, Missed}
use Rattle.vcm_spec.specs.declared.words.MovePhase.TheVariants.{Move, Approach, Search, Retract}
use Rattle.vcm_spec.specs.declared.workpiece.Bounds.{Bounds}
use Rattle.vcm_spec.specs.Workpiece.{Workpiece}
use Rattle.vcm_spec.specs.World.{Settings}
use Rattle.vcm_spec.specs.Touch.{approach_of, end_of, down_of, back_of, touched_of}
use Rattle.vcm_spec.specs.FirstTouch.{first_inside}
use Rattle.vcm_spec.specs.Outcome.{point_of}
use Rattle.vcm_motion.specs.Places.{entry_point}
use Rattle.vcm_marks.specs.declared.mark.Going.{Going}
use Rattle.vcm_marks.specs.declared.mark.Going.TheVariants as going
use Rattle.vcm_marks.specs.declared.mark.Mark.{Mark}
use Rattle.vcm_marks.specs.declared.mark.Mark.TheVariants.{Goes, Touches, Meets}

-- the number from low to high that is nearest to z
abbrev pub clipped : ℤ → ℤ → ℤ → ℤ
clipped low high z = int_max (int_min z high) low

-- the point within the limits that is nearest to a point
abbrev pub nearest : Bounds → Point → Point
nearest l x = point_of (λ k. clipped (coordinate l.low k) (coordinate l.high k) (coordinate x k))

-- a piece from a to its aim b
abbrev pub goes : Going → Point → Point → Mark
goes how a b = Goes (record { going = how; from = a; to = b; aim = b })

-- a way from a that is not gone, its aim b being beyond the limits: up to the nearest point within
abbrev pub falls_short : Bounds → Point → Point → Mark
falls_short l a b = Goes (record { going = going.Rest; from = a; to = nearest l b; aim = b })

-- where the centre of the tip stands as the tip meets the block n, the first being 1, on the way from a to b; a, where it does not
abbrev pub contact_point : Workpiece → ℕ → Point → Point → Point
contact_point part n a b =
    unwrap_or (option_and_then (λ block. entry_point part.bounds.tip block (coordinate a) (coordinate b)) (slice_get part.blocks (n - 1))) a

-- up to the contact c with the block n on the way from a to b, what is not reached, and the contact
abbrev pub met_at : Going → Point → Point → ℕ → Point → List Mark
met_at how a b n c = goes how a c ∷ goes going.Rest c b ∷ Meets (record { at = c; block = n; from = a; aim = b }) ∷ []

-- the same, where the tip meets the block n on that way
abbrev pub meets_block : Workpiece → Going → Point → Point → ℕ → List Mark
meets_block part how a b n = met_at how a b n (contact_point part n a b)

-- GOTO or GOHOME from the point p to the point q
abbrev pub marks_of_move : Workpiece → Point → Point → Option Stop → List Mark
marks_of_move part p q None = goes going.Move p q ∷ []
marks_of_move part p q (Some (Collision Move hit)) = meets_block part going.Move p q hit.block
marks_of_move part p q (Some (Travel Move)) = falls_short part.bounds p q ∷ []
marks_of_move part p q (Some _) = []

-- the points of a measurement: the approach point, the end of the search, the touch, the retract point, all of the tip's centre, and the
-- touched point, with the index of its feature
pub record Touching : Type 0 where
  pub approach : Point
  pub end : Point
  pub touch : Point
  pub retract : Point
  pub touched : Point
  pub feature : ℕ

-- those where the tip touches at the distance t below the approach point
abbrev pub touching_at : Workpiece → Settings → (ℕ → ℤ) → Axis → ℕ → ℕ → Touching
touching_at part s centre d feature t = record {
  approach = point_of (approach_of s centre d);
  end = point_of (end_of s centre d);
  touch = point_of (down_of s centre d t);
  retract = point_of (back_of s centre d t);
  touched = point_of (touched_of part s centre d t);
  feature = feature;
}

-- those of a measurement, where centre is that of the nominal place
abbrev pub touching : Workpiece → Settings → (ℕ → ℤ) → Axis → ℕ → Touching
touching part s centre d feature = touching_at part s centre d feature (unwrap_or (first_inside part s centre d) 0)

-- a touched point, with the index of its feature
abbrev pub touches : Point → ℕ → Mark
touches at feature = Touches (record { at = at; feature = feature })

-- the ways to the approach point and down to the touch, and the touched point, before what comes behind
abbrev pub touched_then : Point → Touching → List Mark → List Mark
touched_then p t behind = goes going.Approach p t.approach ∷ goes going.Search t.approach t.touch ∷ touches t.touched t.feature ∷ behind

-- PTMEAS from the point p
abbrev pub marks_of_touch : Workpiece → Point → Touching → Option Stop → List Mark
marks_of_touch part p t None = touched_then p t (goes going.Retract t.touch t.retract ∷ [])
marks_of_touch part p t (Some (Travel Approach)) = falls_short part.bounds p t.approach ∷ []
marks_of_touch part p t (Some (Collision Approach hit)) = meets_block part going.Approach p t.approach hit.block
marks_of_touch part p t (Some (Travel Search)) = goes going.Approach p t.approach ∷ falls_short part.bounds t.approach t.end ∷ []
marks_of_touch part p t (Some Missed) = goes going.Approach p t.approach ∷ goes going.Search t.approach t.end ∷ []
marks_of_touch part p t (Some (Travel Retract)) = touched_then p t (falls_short part.bounds t.touch t.retract ∷ [])
marks_of_touch part p t (Some (Collision Retract hit)) = touched_then p t (meets_block part going.Retract t.touch t.retract hit.block)
marks_of_touch part p t (Some _) = []
