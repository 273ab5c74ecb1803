-- Bodies: the boxes of one name.
use Rattle.std.specs.Prelude.{◌≡◌, ◌≤◌, ℕ, Bool, true, false, ◌&&◌, List, [], ◌∷◌, ◌++◌, length}
use Rattle.std.specs.List.{list_all}
use Rattle.std.specs.Str.{bytes_eq}
use Rattle.vcm_num.specs.Point.{coordinate, is_below}
use Rattle.vcm_spec.specs.declared.workpiece.Block3.{Block3}
use Rattle.vcm_boxes.specs.declared.boxes.ProbeBox.{ProbeBox}
use Rattle.vcm_boxes.specs.Boxes.{is_corner, is_taken}

-- a body: its name, and the boxes that it is made of
pub record Body : Type 0 where
  pub name : List ℕ
  pub blocks : List Block3

-- whether the corners of a box are in range, and no coordinate of the low one is above the high one's
abbrev pub is_near_block : Block3 → Bool
is_near_block b = is_corner b.low && is_corner b.high && is_below (coordinate b.low) (coordinate b.high)

-- 1 to 64 boxes, each in range
pub record IsBody (blocks : List Block3) : Type 0 where
  pub some : 1 ≤ length blocks
  pub few : length blocks ≤ 64
  pub each : list_all is_near_block blocks ≡ true

-- one block more, where it is one of those
abbrev pub with_block : Bool → Block3 → List Block3 → List Block3
with_block true block blocks = block ∷ blocks
with_block false block blocks = blocks

-- the blocks of the boxes of this name, in their order
abbrev pub blocks_named : List ℕ → List ProbeBox → List Block3
blocks_named name [] = []
blocks_named name (b ∷ bs) = with_block (bytes_eq b.name name) b.block (blocks_named name bs)

-- the body that begins with this box, which others follow
abbrev pub body_from : ProbeBox → List ProbeBox → Body
body_from b bs = record { name = b.name; blocks = b.block ∷ blocks_named b.name bs }

-- one body more, unless a box above has its name
abbrev pub with_body : Bool → Body → List Body → List Body
with_body true body bodies = bodies
with_body false body bodies = body ∷ bodies

-- the bodies of boxes that come behind those above: a body stands where its first box does
unfoldable pub bodies_behind : List ProbeBox → List ProbeBox → List Body
bodies_behind above [] = []
bodies_behind above (b ∷ bs) = with_body (is_taken b.name above) (body_from b bs) (bodies_behind (above ++ b ∷ []) bs)

-- the bodies of boxes
abbrev pub bodies_of : List ProbeBox → List Body
bodies_of bs = bodies_behind [] bs
