-- Worked examples of workpieces off their place.
use Rattle.std.specs.Prelude.{◌≡◌, true, false, [], ◌∷◌, Ok, Err}
use Rattle.vcm_num.specs.declared.point.Point.{Point}
use Rattle.vcm_spec.specs.declared.workpiece.Block3.{Block3}
use Rattle.vcm_spec.specs.Workpiece.{Workpiece}
use Rattle.vcm_spec.specs.Samples.Parts.{bounds, at}
use Rattle.vcm_part.specs.declared.fault.PartCode.TheVariants.{OutOfRange, HomeNotClear}
use Rattle.vcm_part.specs.Faults.{fault}
use Rattle.vcm_place.specs.Placed.{placed_part}

-- a block between two corners
abbrev pub block : Point → Point → Block3
block low high = record { low = low; high = high }

-- the machine of the examples, with a clamp and a block beside it
abbrev pub clamped : Workpiece
clamped = record { bounds = bounds; blocks = block (at 0 0 0) (at 5000 5000 5000) ∷ block (at 10000 10000 0) (at 30000 30000 20000) ∷ [] }

-- the clamp stays, and the other block goes 900 along x, 700 along y and 600 along z
abbrev pub OneStays : Type 0
OneStays =
    placed_part (at 900 700 600) (true ∷ false ∷ []) clamped
    ≡ Ok (record { bounds = bounds; blocks = block (at 0 0 0) (at 5000 5000 5000) ∷ block (at 10900 10700 600) (at 30900 30700 20600) ∷ [] })

-- a kilometre along x, the second block is out of range
abbrev pub OneLeaves : Type 0
OneLeaves = placed_part (at 1000000000 0 0) (true ∷ []) clamped ≡ Err (fault OutOfRange 2)

-- up 80 mm, it is where the probe is at home
abbrev pub HomeIsMet : Type 0
HomeIsMet = placed_part (at 0 0 95000) [] clamped ≡ Err (fault HomeNotClear 0)
