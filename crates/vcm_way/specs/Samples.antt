-- Worked examples: a block from (10, 10, 0) to (30, 30, 20), in millimetres, limits of half a metre on each side, home at (0, 0, 100).
use Rattle.std.specs.Prelude.{◌≡◌, refl, ℕ, false, List, [], ◌∷◌, Some, None}
use Rattle.vcm_num.specs.declared.axis.Axis.TheVariants.{PlusZ}
use Rattle.vcm_num.specs.declared.point.Point.{Point}
use Rattle.vcm_num.specs.Point.{coordinate}
use Rattle.vcm_spec.specs.declared.stop.Stop.TheVariants.{Collision, Travel, Missed, Overflow}
use Rattle.vcm_spec.specs.declared.words.MovePhase.TheVariants.{Move}
use Rattle.vcm_spec.specs.FirstContact.{fraction}
use Rattle.vcm_spec.specs.Touch.{centre_of}
use Rattle.vcm_spec.specs.World.{opening_settings}
use Rattle.vcm_spec.specs.Samples.Parts.{one_block, at, hit}
use Rattle.vcm_marks.specs.declared.mark.Going.TheVariants as going
use Rattle.vcm_marks.specs.declared.mark.Mark.{Mark}
use Rattle.vcm_marks.specs.declared.mark.Mark.TheVariants.{Goes, Meets}
use Rattle.vcm_marks.specs.declared.mark.PlacedMark.{PlacedMark}
use Rattle.vcm_way.specs.Marks.{Touching, goes, touches, touching, marks_of_move, marks_of_touch}
use Rattle.vcm_way.specs.Gone.{whole, ways_in}
use Rattle.vcm_way.specs.Ways.{last_pieces}

-- where the probe begins
abbrev home : Point
home = at 0 0 100000

-- a move beside the block
pub goes_there : marks_of_move one_block home (at 0 20000 25000) None ≡ goes going.Move home (at 0 20000 25000) ∷ []
goes_there = refl

-- a move into the block: the thirds of micrometres are cut off towards home
pub goes_into : marks_of_move one_block home (at 20000 20000 10000) (Some (Collision Move (hit 1 888))) ≡
    goes going.Move home (at 17777 17777 20000) ∷ goes going.Rest (at 17777 17777 20000) (at 20000 20000 10000)
    ∷ Meets (record { at = at 17777 17777 20000; block = 1; from = home; aim = at 20000 20000 10000 }) ∷ []
goes_into = refl

-- a move beyond the limits
pub goes_beyond : marks_of_move one_block home (at 600000 0 20000) (Some (Travel Move)) ≡
    Goes (record { going = going.Rest; from = home; to = at 500000 0 20000; aim = at 600000 0 20000 }) ∷ []
goes_beyond = refl

-- a move whose place overflows
pub goes_nowhere : marks_of_move one_block home home (Some Overflow) ≡ []
goes_nowhere = refl

-- the points of a measurement downwards of the point at (20, 20, 20.5)
abbrev middle : Touching
middle = touching one_block opening_settings (centre_of one_block (coordinate (at 20000 20000 20500)) PlusZ) PlusZ 7

-- a touch of its face: to the approach point, down to the face, and up again
pub touched : marks_of_touch one_block home middle None ≡
    goes going.Approach home (at 20000 20000 22500) ∷ goes going.Search (at 20000 20000 22500) (at 20000 20000 20000)
    ∷ touches (at 20000 20000 20000) 7 ∷ goes going.Retract (at 20000 20000 20000) (at 20000 20000 22000) ∷ []
touched = refl

-- a touch that misses ends at the end of the search
pub missed : marks_of_touch one_block home middle (Some Missed) ≡
    goes going.Approach home (at 20000 20000 22500) ∷ goes going.Search (at 20000 20000 22500) (at 20000 20000 18500) ∷ []
missed = refl

-- the way into the block is gone up to 8/9
pub way_into : ways_in one_block (marks_of_move one_block home (at 20000 20000 10000) (Some (Collision Move (hit 1 888)))) ≡
    record { going = going.Move; from = home; to = at 20000 20000 10000; gone = fraction 80000 90000 } ∷ []
way_into = refl

-- none is gone beyond the limits
pub way_beyond : ways_in one_block (marks_of_move one_block home (at 600000 0 20000) (Some (Travel Move))) ≡ []
way_beyond = refl

-- those of a touch are gone whole
pub ways_touched : ways_in one_block (marks_of_touch one_block home middle None) ≡
    whole going.Approach home (at 20000 20000 22500) ∷ whole going.Search (at 20000 20000 22500) (at 20000 20000 20000)
    ∷ whole going.Retract (at 20000 20000 20000) (at 20000 20000 22000) ∷ []
ways_touched = refl

-- marks of the steps 1, 2 and 2
abbrev placed : ℕ → Mark → PlacedMark
placed step mark = record { mark = mark; step = step; number = 0; line = 1; is_elsewhere = false }

abbrev three : List PlacedMark
three = placed 1 (goes going.Move home home) ∷ placed 2 (touches home 0) ∷ placed 2 (goes going.Retract home home) ∷ []

-- the last piece, with the touched point of its step
pub last_one : last_pieces 1 three ≡ placed 2 (touches home 0) ∷ placed 2 (goes going.Retract home home) ∷ []
last_one = refl

-- no piece, and so no touched point
pub last_none : last_pieces 0 three ≡ []
last_none = refl
