-- The shapes of a view, and how they are written.
use Rattle.std.specs.Prelude.{ℕ, List, [], ◌∷◌, flat_map, decimal, codes}
use Rattle.vcm_num.specs.declared.point.Point.{Point}
use Rattle.vcm_report.specs.Printed.{name_at}
use Rattle.vcm_marks.specs.declared.mark.Contact.{Contact}
use Rattle.vcm_marks.specs.declared.mark.Going.{Going}
use Rattle.vcm_marks.specs.declared.mark.Going.TheVariants.{Move, Approach, Search, Retract, Rest}
use Rattle.vcm_marks.specs.declared.mark.Leg.{Leg}
use Rattle.vcm_marks.specs.declared.mark.PlacedMark.{PlacedMark}
use Rattle.vcm_svg.specs.Pieces.{joined, point_text}
use Rattle.vcm_svg.specs.Shapes.{path, told, text}
use Rattle.vcm_picture.specs.declared.shapes.Shape.{Shape}
use Rattle.vcm_picture.specs.declared.shapes.Shape.TheVariants.{Path, Told, Text}
use Rattle.vcm_marks.specs.declared.mark.Moment.{Moment}
use Rattle.vcm_picture.specs.declared.shapes.Tip.{Tip}
use Rattle.vcm_picture.specs.declared.shapes.Tip.TheVariants as tip
use Rattle.vcm_picture.specs.declared.shapes.Words.{Words}
use Rattle.vcm_picture.specs.declared.shapes.Words.TheVariants as words

-- the step of a mark
abbrev pub step_of : PlacedMark → Moment
step_of m = record { step = m.step; number = m.number; line = m.line }

-- the step, the statement and the source line of a mark, before other texts
abbrev pub step_tip : Moment → List (List ℕ) → List ℕ
step_tip s texts =
    joined (codes "step " ∷ decimal s.step ∷ codes " statement " ∷ decimal s.number ∷ codes " line " ∷ decimal s.line ∷ codes ": " ∷ texts)

-- what a piece is called
abbrev pub going_text : Going → List ℕ
going_text Move = codes "move "
going_text Approach = codes "approach "
going_text Search = codes "search "
going_text Retract = codes "retract "
going_text Rest = codes "not reached "

-- the tooltip of a piece that is called this
abbrev pub piece_tip : Moment → List ℕ → Leg → List ℕ
piece_tip s going p = step_tip s (going ∷ point_text p.from ∷ codes " to " ∷ point_text p.aim ∷ [])

-- the tooltip of a touched point of the feature with this name
abbrev pub touched_tip : Moment → List ℕ → Point → List ℕ
touched_tip s name at = step_tip s (name ∷ codes " touched at " ∷ point_text at ∷ [])

-- the tooltip of the contact, with the first line of the heading
abbrev pub contact_tip : List ℕ → Contact → List ℕ
contact_tip stopped c = joined (stopped ∷ codes ", of the way " ∷ point_text c.from ∷ codes " to " ∷ point_text c.aim ∷ [])

-- what a tooltip tells, in a view whose features have these names, of a run with this first line of the heading
abbrev pub tip_text : List (List ℕ) → List ℕ → Tip → List ℕ
tip_text features stopped (tip.Block n b) =
    joined (codes "block " ∷ decimal n ∷ codes ": " ∷ point_text b.low ∷ codes " to " ∷ point_text b.high ∷ [])
tip_text features stopped (tip.Leg s p) = piece_tip s (going_text p.going) p
tip_text features stopped (tip.Touched s t) = touched_tip s (name_at features t.feature) t.at
tip_text features stopped (tip.Limits low high) = joined (codes "limits: " ∷ point_text low ∷ codes " to " ∷ point_text high ∷ [])
tip_text features stopped (tip.Home p) = joined (codes "home: " ∷ point_text p ∷ [])
tip_text features stopped (tip.End p) = joined (codes "end: " ∷ point_text p ∷ [])
tip_text features stopped tip.TipAtEnd = joined (codes "the tip at the end" ∷ [])
tip_text features stopped tip.TipAtContact = joined (codes "the tip at the contact" ∷ [])
tip_text features stopped (tip.Contact c) = contact_tip stopped c

-- the words of a text
abbrev pub words_text : List (List ℕ) → Words → List ℕ
words_text features (words.Number n) = joined (decimal n ∷ [])
words_text features (words.Block n) = joined (codes "block " ∷ decimal n ∷ [])
words_text features words.End = joined (codes "end" ∷ [])
words_text features words.Home = joined (codes "home" ∷ [])
words_text features (words.Feature i) = joined (name_at features i ∷ [])

-- a shape
abbrev pub shape_text : List (List ℕ) → List ℕ → Shape → List ℕ
shape_text features stopped (Path c o) = path c o
shape_text features stopped (Told c o t) = told c o (tip_text features stopped t)
shape_text features stopped (Text l w) = text l (words_text features w)

-- shapes, one after another
abbrev pub shapes_text : List (List ℕ) → List ℕ → List Shape → List ℕ
shapes_text features stopped shapes = flat_map (shape_text features stopped) shapes
