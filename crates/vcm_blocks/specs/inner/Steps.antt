-- What the steps of the command answer inside this crate.
use Rattle.std.specs.Prelude.{◌≡◌, ℕ, List, ◌++◌, Result, Ok, Err}
use Rattle.vcm_spec.specs.declared.workpiece.Block3.{Block3}
use Rattle.vcm_spec.specs.declared.workpiece.Bounds.{Bounds}
use Rattle.vcm_spec.specs.Workpiece.{Workpiece}
use Rattle.vcm_part.specs.PartFile.{part_of}
use Rattle.vcm_mesh.specs.declared.triangle.Triangle.{Triangle}
use Rattle.vcm_mesh.specs.declared.placing.Placing.{Placing}
use Rattle.vcm_mesh.specs.Meshes.{mesh_of}
use Rattle.vcm_covering.specs.Covering.{Covers}
use Rattle.vcm_cover.specs.Models.{corners}
use Rattle.vcm_blocks.specs.declared.fault.BlocksFault.{BlocksFault}
use Rattle.vcm_blocks.specs.declared.fault.BlocksFault.TheVariants.{NoMemory, Part, Model, Refused}

-- these bounds and these blocks
abbrev pub workpiece : Bounds → List Block3 → Workpiece
workpiece bounds blocks = record { bounds = bounds; blocks = blocks }

-- the text gives a workpiece with these bounds, with these blocks and then others, which cover the triangles
pub record Adds (bounds : Bounds) (own : List Block3) (ts : List Triangle) (text : List ℕ) : Type 0 where
  pub blocks : List Block3
  pub reads : part_of text ≡ Ok (workpiece bounds (own ++ blocks))
  pub held : Covers blocks (corners ts)

-- what the reading of a part file answers
abbrev pub PartReads : List ℕ → Result Workpiece BlocksFault → Type 0
PartReads bytes (Ok part) = part_of bytes ≡ Ok part
PartReads bytes (Err NoMemory) = Unit {0}
PartReads bytes (Err (Part fault)) = part_of bytes ≡ Err fault
PartReads bytes (Err _) = ⊥

-- what the reading of a model answers, seen by view
abbrev pub ModelReads : {X : Type 0} → (X → List Triangle) → Placing → List ℕ → Result X BlocksFault → Type 0
ModelReads view placing bytes (Ok x) = mesh_of placing bytes ≡ Ok (view x)
ModelReads view placing bytes (Err NoMemory) = Unit {0}
ModelReads view placing bytes (Err (Model refusal)) = mesh_of placing bytes ≡ Err refusal
ModelReads view placing bytes (Err _) = ⊥

-- a fault of a step after these two
abbrev pub IsLate : BlocksFault → Type 0
IsLate NoMemory = Unit {0}
IsLate (Refused refusal) = Unit {0}
IsLate _ = ⊥
