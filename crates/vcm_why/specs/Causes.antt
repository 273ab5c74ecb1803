-- The lines of a motion that stopped.
use Rattle.std.specs.Prelude.{ℕ, ℤ, List, [], ◌∷◌, ◌++◌, Option, Some, None, decimal, codes}
use Rattle.vcm_num.specs.declared.point.Point.{Point}
use Rattle.vcm_num.specs.Texts.{thousandths}
use Rattle.vcm_report.specs.Printed.{in_a_row, point_text}
use Rattle.vcm_cause.specs.declared.sides.Side.{Side}
use Rattle.vcm_cause.specs.declared.sides.Side.TheVariants.{LowX, HighX, LowY, HighY}
use Rattle.vcm_cause.specs.declared.sides.FreeSide.{FreeSide}
use Rattle.vcm_cause.specs.declared.cause.Obstacle.{Obstacle}
use Rattle.vcm_cause.specs.declared.cause.Cause.{Cause}
use Rattle.vcm_cause.specs.declared.cause.Cause.TheVariants.{Elsewhere, Way, Met}

-- a point in millimetres between two texts
abbrev pub point_between : List ℕ → Point → List ℕ → List ℕ
point_between before at after = before ++ (point_text (codes " ") at ++ after)

-- a way
abbrev pub way_line : Point → Point → List ℕ
way_line from to = point_between (codes "way ") from (codes " to ") ++ point_between [] to (codes "\n")

-- the corners of a block
abbrev pub corners_text : Point → Point → List ℕ
corners_text low high = point_between [] low (codes " to ") ++ point_between [] high (codes "\n")

-- the number of a block
abbrev pub block_text : ℕ → List ℕ
block_text block = in_a_row (codes "block " ∷ decimal block ∷ codes ", " ∷ [])

-- the number of the block that is met, and its corners
abbrev pub block_line : Obstacle → List ℕ
block_line met = block_text met.contact.block ++ corners_text met.block.low met.block.high

-- a contact, and the block that is met
abbrev pub contact_line : Obstacle → List ℕ
contact_line met = point_between (codes "contact of the tip's centre at ") met.contact.at (codes " with ") ++ block_line met

-- the words before the edge of a side
abbrev pub side_text : Side → List ℕ
side_text LowX = codes "beside it to x "
side_text HighX = codes "beside it from x "
side_text LowY = codes "beside it to y "
side_text HighY = codes "beside it from y "

-- the edge of the side past which a way is free of a block, and the end of the line
abbrev pub edge_text : FreeSide → List ℕ
edge_text past = in_a_row (side_text past.side ∷ thousandths past.at ∷ codes "\n" ∷ [])

-- that edge behind these words
abbrev pub side_line : List ℕ → FreeSide → List ℕ
side_line before past = before ++ edge_text past

-- that side, if there is one, and the end of the line
abbrev pub beside_text : Option FreeSide → List ℕ
beside_text None = in_a_row (codes "\n" ∷ [])
beside_text (Some past) = side_line (codes ", ") past

-- over which height a way is free of a block
abbrev pub height_text : ℤ → List ℕ
height_text z = codes "free over it from z " ++ thousandths z

-- that height, and the side
abbrev pub over_line : ℤ → Option FreeSide → List ℕ
over_line z beside = height_text z ++ beside_text beside

-- the side alone, if there is one
abbrev pub alone_line : Option FreeSide → List ℕ
alone_line None = []
alone_line (Some past) = side_line (codes "free ") past

-- where a way is free of a block, as far as that is within the limits
abbrev pub free_line : Option ℤ → Option FreeSide → List ℕ
free_line (Some z) beside = over_line z beside
free_line None beside = alone_line beside

-- the contact, and where a way is free of the block
abbrev pub block_lines : Obstacle → List ℕ
block_lines met = contact_line met ++ free_line met.over met.beside

-- the way on which a block is met, the contact, and where a way is free of the block
abbrev pub met_lines : Obstacle → List ℕ
met_lines met = way_line met.contact.from met.contact.aim ++ block_lines met

-- the lines of a motion
abbrev pub cause_lines : Cause → List ℕ
cause_lines Elsewhere = []
cause_lines (Way from to) = way_line from to
cause_lines (Met met) = met_lines met
