-- The blocks of a view, and their numbers.
use Rattle.std.specs.Prelude.{◌-◌, List, ◌++◌, Option, Some, None, slice_get, option_map, option_to_list, flat_map}
use Rattle.vcm_marks.specs.declared.mark.Contact.{Contact}
use Rattle.vcm_svg.specs.declared.shapes.Class.{Class}
use Rattle.vcm_svg.specs.declared.shapes.Class.TheVariants as class
use Rattle.vcm_svg.specs.declared.shapes.Lettering.TheVariants as lettering
use Rattle.vcm_svg.specs.Outlines.{rect_outline}
use Rattle.vcm_svg.specs.Shapes.{label}
use Rattle.vcm_picture.specs.declared.shapes.Shape.{Shape}
use Rattle.vcm_picture.specs.declared.shapes.Shape.TheVariants.{Path, Told, Text}
use Rattle.vcm_picture.specs.declared.shapes.Tip.TheVariants as tip
use Rattle.vcm_picture.specs.declared.shapes.Words.TheVariants as words
use Rattle.vcm_picture.specs.declared.shown.Face.{Face}
use Rattle.vcm_picture.specs.declared.shown.Seen.{Seen}
use Rattle.vcm_picture.specs.declared.shown.Shown.{Shown}
use Rattle.vcm_picture.specs.declared.shown.Shown.TheVariants.{Repeated, Hidden, Open}

-- a block with its tooltip
abbrev pub block_shape : Class → Face → Shape
block_shape c f = Told c (rect_outline f.rect) (tip.Block f.number f.block)

-- a block, where it is open
abbrev pub open_shape : Face → Shown → Option Shape
open_shape f Repeated = None
open_shape f Hidden = None
open_shape f (Open figure) = Some (block_shape class.Block f)

-- a block, where it is hidden
abbrev pub hidden_shape : Face → Shown → Option Shape
hidden_shape f Repeated = None
hidden_shape f Hidden = Some (block_shape class.Hidden f)
hidden_shape f (Open figure) = None

-- the outline of the block of the contact
abbrev pub hit_shape : List Face → Option Contact → Option Shape
hit_shape fs None = None
hit_shape fs (Some c) = option_map (λ f. Path class.Hit (rect_outline f.rect)) (slice_get fs (c.block - 1))

-- the number of a block, if it has a box
abbrev pub number_shape : Face → Shown → Option Shape
number_shape f Repeated = None
number_shape f Hidden = None
number_shape f (Open None) = None
number_shape f (Open (Some g)) = Some (Text g.label (words.Number f.number))

-- the open blocks
abbrev pub open_shapes : List Seen → List Shape
open_shapes seen = flat_map (λ s. option_to_list (open_shape s.face s.shown)) seen

-- the hidden blocks
abbrev pub hidden_shapes : List Seen → List Shape
hidden_shapes seen = flat_map (λ s. option_to_list (hidden_shape s.face s.shown)) seen

-- the numbers
abbrev pub number_shapes : List Seen → List Shape
number_shapes seen = flat_map (λ s. option_to_list (number_shape s.face s.shown)) seen

-- the blocks of a view
abbrev pub blocks_shapes : List Face → List Seen → Option Contact → List Shape
blocks_shapes faces seen contact =
    open_shapes seen ++ (hidden_shapes seen ++ (option_to_list (hit_shape faces contact) ++ number_shapes seen))
