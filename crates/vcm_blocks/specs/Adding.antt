-- What the blocks of a model are added to, and what that gives.
use Rattle.std.specs.Prelude.{◌≡◌, ℕ, pos, ◌+ℤ◌, ◌-ℤ◌, List, [], ◌∷◌, ◌++◌, Option, Some, None, Result, Ok, Err}
use Rattle.std.specs.Int.{int_min, int_max}
use Rattle.vcm_num.specs.declared.point.Point.{Point}
use Rattle.vcm_num.specs.Point.{point, coordinate}
use Rattle.vcm_spec.specs.declared.workpiece.Block3.{Block3}
use Rattle.vcm_spec.specs.declared.workpiece.Bounds.{Bounds}
use Rattle.vcm_spec.specs.Workpiece.{Workpiece}
use Rattle.vcm_part.specs.declared.fault.PartFault.{PartFault}
use Rattle.vcm_part.specs.PartFile.{part_of}
use Rattle.vcm_mesh.specs.declared.triangle.Triangle.{Triangle}
use Rattle.vcm_mesh.specs.declared.placing.Placing.{Placing}
use Rattle.vcm_mesh.specs.Meshes.{mesh_of}
use Rattle.vcm_covering.specs.Covering.{Covers}
use Rattle.vcm_cover.specs.Models.{corners}
use Rattle.vcm_blocks.specs.declared.fault.BlocksFault.{BlocksFault}
use Rattle.vcm_blocks.specs.declared.fault.BlocksFault.TheVariants.{NoMemory, Part, Model, Refused}

-- on each axis the lesser of two coordinates, and the greater
abbrev pub lesser : Point → Point → Point
lesser p q = point (int_min (coordinate p 0) (coordinate q 0)) (int_min (coordinate p 1) (coordinate q 1)) (int_min (coordinate p 2) (coordinate q 2))

abbrev pub greater : Point → Point → Point
greater p q = point (int_max (coordinate p 0) (coordinate q 0)) (int_max (coordinate p 1) (coordinate q 1)) (int_max (coordinate p 2) (coordinate q 2))

-- the least box that holds a box and a triangle
unfoldable pub with_triangle : Block3 → Triangle → Block3
with_triangle b t = record {
  low = lesser (lesser (lesser b.low t.a) t.b) t.c;
  high = greater (greater (greater b.high t.a) t.b) t.c;
}

-- the least box that holds a box and triangles
abbrev pub box_with : Block3 → List Triangle → Block3
box_with b [] = b
box_with b (t ∷ ts) = box_with (with_triangle b t) ts

-- the box of a model: the least one that holds its triangles
abbrev pub box_of : List Triangle → Block3
box_of [] = record { low = point (pos 0) (pos 0) (pos 0); high = point (pos 0) (pos 0) (pos 0) }
box_of (t ∷ ts) = box_with (record { low = t.a; high = t.a }) (t ∷ ts)

-- the limits of a first look: 100 mm more than a box to each side, 200 above and none below it, home 100 mm above its corner, a tip that is a point
abbrev pub bounds_round : Block3 → Bounds
bounds_round b = record {
  low = point (coordinate b.low 0 -ℤ pos 100000) (coordinate b.low 1 -ℤ pos 100000) (coordinate b.low 2);
  high = point (coordinate b.high 0 +ℤ pos 100000) (coordinate b.high 1 +ℤ pos 100000) (coordinate b.high 2 +ℤ pos 200000);
  home = point (coordinate b.low 0) (coordinate b.low 1) (coordinate b.high 2 +ℤ pos 100000);
  tip = 0;
}

-- what the blocks of a model are added to: the workpiece of a part file, or without one that of a first look, which has no blocks
abbrev pub base_of : Option (List ℕ) → List Triangle → Result Workpiece PartFault
base_of None ts = Ok (record { bounds = bounds_round (box_of ts); blocks = [] })
base_of (Some bytes) ts = part_of bytes

-- a workpiece with more blocks after its own
abbrev pub with_blocks : Workpiece → List Block3 → Workpiece
with_blocks part blocks = record { bounds = part.bounds; blocks = part.blocks ++ blocks }

-- the text, read as a part file, gives what it is added to with more blocks after its own, and each point of each triangle of the model lies in one
-- of these blocks, and so in a block of that workpiece
pub record IsAdded (part : Option (List ℕ)) (placing : Placing) (model text : List ℕ) : Type 0 where
  pub triangles : List Triangle
  pub base : Workpiece
  pub blocks : List Block3
  pub model_is : mesh_of placing model ≡ Ok triangles
  pub base_is : base_of part triangles ≡ Ok base
  pub reads : part_of text ≡ Ok (with_blocks base blocks)
  pub held : Covers blocks (corners triangles)
  pub covered : Covers (with_blocks base blocks).blocks (corners triangles)

-- a part file, if there is one, gives a workpiece; or it is refused
abbrev pub PartStands : Option (List ℕ) → Type 0
PartStands None = Unit {0}
PartStands (Some bytes) = (base : Workpiece) × (part_of bytes ≡ Ok base)

abbrev pub PartFails : Option (List ℕ) → PartFault → Type 0
PartFails None fault = ⊥
PartFails (Some bytes) fault = part_of bytes ≡ Err fault

-- a refusal: the part file's own comes first, then the model's, then all others
abbrev pub Refuses : Option (List ℕ) → Placing → List ℕ → BlocksFault → Type 0
Refuses part placing model NoMemory = Unit {0}
Refuses part placing model (Part fault) = PartFails part fault
Refuses part placing model (Model refusal) = PartStands part × (mesh_of placing model ≡ Err refusal)
Refuses part placing model (Refused refusal) = PartStands part × ((ts : List Triangle) × (mesh_of placing model ≡ Ok ts))
