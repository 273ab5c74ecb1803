-- Worked examples of covers.
use Rattle.std.specs.Prelude.{◌≡◌, ℕ, pos, List, [], ◌∷◌}
use Rattle.vcm_num.specs.Point.{point}
use Rattle.vcm_spec.specs.declared.workpiece.Block3.{Block3}
use Rattle.vcm_mesh.specs.declared.triangle.Triangle.{Triangle}
use Rattle.vcm_cover.specs.Models.{corners_of}
use Rattle.vcm_cover.specs.Hollows.{LeavesNoHollow}

-- a block between two corners
abbrev pub block : (x y z u v w : ℕ) → Block3
block x y z u v w = record { low = point (pos x) (pos y) (pos z); high = point (pos u) (pos v) (pos w) }

-- six walls of a micrometre round a room of eight
abbrev pub walls : List Block3
walls =
    block 0 0 0 1 10 10 ∷ block 9 0 0 10 10 10 ∷ block 0 0 0 10 1 10 ∷ block 0 9 0 10 10 10 ∷ block 0 0 0 10 10 1 ∷ block 0 0 9 10 10 10 ∷ []

-- the room is a hollow
abbrev pub RoomIsHollow : Type 0
RoomIsHollow = LeavesNoHollow walls → ⊥

-- a triangle
abbrev pub slope : Triangle
slope = record { a = point (pos 0) (pos 0) (pos 0); b = point (pos 30) (pos 0) (pos 0); c = point (pos 0) (pos 20) (pos 5) }

-- a coordinate of one of its corners
abbrev pub CornerOfSlope : Type 0
CornerOfSlope = (corners_of slope).b 0 ≡ pos 30
