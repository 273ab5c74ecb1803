-- The text of a probe file.
use Rattle.std.specs.Prelude.{ℕ, ◌+◌, ◌==◌, ℤ, pos, int_div, int_rem, not, ◌||◌, Bool, false, if◌then◌else◌, List, [], ◌∷◌, ◌++◌, flat_map, codes, Option, Some, None, slice_get}
use Rattle.std.specs.List.{list_any}
use Rattle.std.specs.Int.{int_max}
use Rattle.std.specs.Ordering.{int_eq}
use Rattle.std.specs.Fmt.{signed_decimal}
use Rattle.vcm_spec.specs.declared.workpiece.Block3.{Block3}
use Rattle.vcm_hardware.specs.declared.description.Place.{Place}
use Rattle.vcm_hardware.specs.declared.description.StillBox.{StillBox}
use Rattle.vcm_hardware.specs.declared.description.Cylinder.{Cylinder}
use Rattle.vcm_hardware.specs.declared.description.Ball.{Ball}
use Rattle.vcm_hardware.specs.declared.description.Choice.{Choice}
use Rattle.vcm_hardware.specs.declared.angle.Spot.{Spot}
use Rattle.vcm_hardware.specs.declared.angle.Turning.{Turning}
use Rattle.vcm_hardware.specs.declared.swing.Swing.{Swing}
use Rattle.vcm_hardware.specs.Described.{Hanging, Described}
use Rattle.vcm_hardware.specs.Boxes.{turning_of, tip_of, part_boxes, ball_box, centre, head_box, pivot}
use Rattle.vcm_hardware.specs.Intervals.{half_up, size}
use Rattle.vcm_hardware.specs.Swings.{whole_reach, swing_by, swing_slabs}
use Rattle.vcm_hardware.specs.Pieces.{point_text, joined}

-- a box in its lines
abbrev pub box_text : List ℕ → List ℕ → Block3 → List ℕ
box_text head name b = head ++ (name ++ joined (codes "\"\nlow = " ∷ point_text b.low ∷ codes "\nhigh = " ∷ point_text b.high ∷ codes "\n" ∷ []))

-- a box of a probe
abbrev pub own_text : List ℕ → Block3 → List ℕ
own_text name b = box_text (codes "[[probe.box]]\nname = \"") name b

-- those of one body
abbrev pub blocks_text : List ℕ → List Block3 → List ℕ
blocks_text name blocks = flat_map (own_text name) blocks

-- the boxes of the parts
abbrev pub parts_text : Turning → Place → List Cylinder → List ℕ
parts_text t tip parts = flat_map (λ part. blocks_text part.name (part_boxes t tip part)) parts

-- the cube of a ball, unless it is the tip itself
abbrev pub ball_text : Turning → Place → Bool → Ball → List ℕ
ball_text t tip is_own ball = if is_own then [] else own_text ball.name (ball_box t tip ball)

-- those of the balls, the first one being ball `place`
abbrev pub balls_text : Turning → Place → ℕ → ℕ → List Ball → List ℕ
balls_text t tip own place [] = []
balls_text t tip own place (ball ∷ balls) = ball_text t tip (place == own) ball ++ balls_text t tip own (place + 1) balls

-- the boxes that stand still
abbrev pub heads_text : Spot → List StillBox → List ℕ
heads_text c heads = flat_map (λ still. own_text still.name (head_box c still)) heads

-- an angle behind its letter: whole degrees, or half a degree more
abbrev pub half_text : ℤ → List ℕ
half_text rest = if int_eq rest (pos 0) then [] else codes "_5"

abbrev pub angle_text : List ℕ → ℤ → List ℕ
angle_text letter z = joined (letter ∷ signed_decimal (int_div z (pos 1000)) ∷ half_text (int_rem z (pos 1000)) ∷ [])

-- half the width of a probe's tip, up
abbrev pub half_of : Option Ball → ℤ
half_of None = pos 0
half_of (Some ball) = half_up ball.diameter

abbrev pub half_tip : List Ball → Choice → ℤ
half_tip balls choice = half_of (slice_get balls choice.tip)

-- the lines of a probe before its pose
abbrev pub probe_head : Hanging → Turning → Choice → List ℕ
probe_head h t choice =
    codes "[[probe]]\nname = \""
    ++ (choice.name
    ++ joined (codes "\"\nnumber = " ∷ signed_decimal choice.number ∷ codes "\ntip = " ∷ signed_decimal (half_tip h.balls choice) ∷ codes "\npivot = "
    ∷ point_text (pivot (centre t (tip_of h.balls choice))) ∷ codes "\npose = \"" ∷ []))

-- a pose, and the end of its line
abbrev pub pose_text : Choice → List ℕ
pose_text choice = angle_text (codes "A") choice.a ++ (angle_text (codes "B") choice.b ++ codes "\"\n")

-- the boxes of a probe: those of the parts, of the other balls, and those that stand still
abbrev pub probe_boxes : Hanging → Turning → Choice → List ℕ
probe_boxes h t choice =
    let tip = tip_of h.balls choice in
    parts_text t tip h.parts ++ (balls_text t tip choice.tip 0 h.balls ++ heads_text (centre t tip) h.heads)

-- a probe
abbrev pub probe_text_at : Hanging → Turning → Choice → List ℕ
probe_text_at h t choice = probe_head h t choice ++ (pose_text choice ++ probe_boxes h t choice)

abbrev pub probe_text : Hanging → Choice → List ℕ
probe_text h choice = probe_text_at h (turning_of h.turn choice) choice

-- all probes
abbrev pub probes_text : Hanging → List Choice → List ℕ
probes_text h choices = flat_map (probe_text h) choices

-- a slab of the swing
abbrev pub swing_box_text : Block3 → List ℕ
swing_box_text b = box_text (codes "[[swing]]\nname = \"") (codes "swing") b

abbrev pub swing_text : Swing → List ℕ
swing_text w = flat_map swing_box_text (swing_slabs w)

-- whether two probes have different poses
abbrev pub is_other_pose : Choice → Choice → Bool
is_other_pose p q = not (int_eq q.a p.a) || not (int_eq q.b p.b)

abbrev pub has_poses : List Choice → Bool
has_poses [] = false
has_poses (c ∷ cs) = list_any (is_other_pose c) (c ∷ cs)

-- by how many steps of 7.5 degrees A is turned, to either side, and at most
abbrev pub steps_of : Choice → ℤ
steps_of c = size (int_div c.a (pos 7500))

abbrev pub most_steps : ℤ → List Choice → ℤ
most_steps most [] = most
most_steps most (c ∷ cs) = most_steps (int_max most (steps_of c)) cs

-- the line of the variable, where the description has one
abbrev pub variable_line : List ℕ → List ℕ
variable_line name = codes "variable = \"" ++ (name ++ codes "\"\n")

abbrev pub variable_text : Option (List ℕ) → List ℕ
variable_text None = []
variable_text (Some name) = variable_line name

-- the swing, where there are two poses
abbrev pub swing_part : Hanging → List Choice → List ℕ
swing_part h choices = if has_poses choices then swing_text (swing_by (whole_reach h.parts h.balls) (most_steps (pos 0) choices)) else []

-- the probe file of a description
abbrev pub probe_file : Described → List ℕ
probe_file d = variable_text d.variable ++ (probes_text d.hanging d.choices ++ swing_part d.hanging d.choices)
