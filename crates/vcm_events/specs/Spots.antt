-- Places that are kept for later, steps from the probe's place, and slanted points, said as statements whose names no text can write.
use Rattle.std.specs.Prelude.{ℕ, ℤ, codes, List, [], ◌∷◌, Option}
use Rattle.vcm_num.specs.Words.{look_up}
use Rattle.vcm_num.specs.declared.axis.Axis.TheVariants.{PlusZ}
use Rattle.vcm_spec.specs.declared.words.FrameAxis.{FrameAxis}
use Rattle.vcm_spec.specs.declared.words.FrameAxis.TheVariants.{X, Y, Z}
use Rattle.vcm_expr.specs.Source.{Source}
use Rattle.vcm_forms.specs.declared.statement.Coordinates.{Coordinates}
use Rattle.vcm_forms.specs.declared.statement.Offset.{Offset}
use Rattle.vcm_forms.specs.declared.statement.Form.{Form}
use Rattle.vcm_forms.specs.declared.statement.Form.TheVariants.{Feature, Shift}
use Rattle.vcm_events.specs.declared.spots.Spot.{Spot}
use Rattle.vcm_events.specs.declared.spots.Spot.TheVariants.{Home, Target, Step, Back}
use Rattle.vcm_events.specs.Joined.{whole_of, length_of}

-- the names of the features that they are said by: no text can write them, since the name of a feature of a text begins with no digit
abbrev pub spot_name : Spot → List ℕ
spot_name Home = codes "0HOME"
spot_name Target = codes "0TARGET"
spot_name Step = codes "0STEP"
spot_name Back = codes "0BACK"

-- what the feature with this name stands for
abbrev pub spot_named : List ℕ → Option Spot
spot_named name = look_up
    ((codes "0HOME", Home)
    ∷ (codes "0TARGET", Target)
    ∷ (codes "0STEP", Step)
    ∷ (codes "0BACK", Back)
    ∷ []) name

-- a place that is none to go to at once, as a statement
abbrev pub spotted : Spot → Coordinates → Form
spotted s p = Feature (spot_name s) p PlusZ

-- the name of the frame that slanted points are said by
abbrev pub slanted_name : List ℕ
slanted_name = codes "0SLANTED"

-- a shift along an axis
abbrev pub leg : FrameAxis → Source → Offset
leg axis e = record { axis = axis; length = e }

-- a slanted point: its place, and its direction in thousandths
abbrev pub slanted : Coordinates → (i j k : ℤ) → Form
slanted p i j k = Shift slanted_name (leg X p.x ∷ leg Y p.y ∷ leg Z p.z ∷ leg X (whole_of i) ∷ leg Y (whole_of j) ∷ leg Z (whole_of k) ∷ [])

-- a point that is approached and left along the direction of its feature: its place alone
abbrev pub pointed : Coordinates → Form
pointed p = Shift slanted_name (leg X p.x ∷ leg Y p.y ∷ leg Z p.z ∷ [])

-- half the width of the tip, in micrometres, which slanted points ask for
abbrev pub tip_said : ℤ → Form
tip_said width = Shift slanted_name (leg X (length_of width) ∷ [])
