-- Texts and paths of a picture.
use Rattle.std.specs.Prelude.{ℕ, ℤ, List, [], ◌∷◌, ◌++◌, codes}
use Rattle.std.specs.Fmt.{signed_decimal}
use Rattle.vcm_svg.specs.declared.rect.Spot.{Spot}
use Rattle.vcm_svg.specs.declared.shapes.Class.{Class}
use Rattle.vcm_svg.specs.declared.shapes.Class.TheVariants as class
use Rattle.vcm_svg.specs.declared.shapes.Placement.{Placement}
use Rattle.vcm_svg.specs.declared.shapes.Lettering.{Lettering}
use Rattle.vcm_svg.specs.declared.shapes.Lettering.TheVariants.{Plain, Heading, Number, Name, Note}
use Rattle.vcm_svg.specs.declared.outlines.Outline.{Outline}
use Rattle.vcm_svg.specs.Outlines.{outline_text}
use Rattle.vcm_svg.specs.Pieces.{joined}

-- what a text's class adds to its element
abbrev pub attribute : Lettering → List ℕ
attribute Plain = []
attribute Heading = codes " class=\"h\""
attribute Number = codes " class=\"n\""
attribute Name = codes " class=\"p\""
attribute Note = codes " class=\"h u\""

-- the name of a path's class
abbrev pub class_name : Class → List ℕ
class_name class.Sheet = codes "w"
class_name class.Frame = codes "f"
class_name class.Limits = codes "l"
class_name class.Block = codes "b"
class_name class.Hidden = codes "i"
class_name class.Hit = codes "g"
class_name class.Move = codes "move"
class_name class.Arrow = codes "move a"
class_name class.Approach = codes "approach"
class_name class.Search = codes "search"
class_name class.Retract = codes "retract"
class_name class.Rest = codes "rest"
class_name class.Elsewhere = codes "elsewhere"
class_name class.Touched = codes "d"
class_name class.Place = codes "o"
class_name class.Tip = codes "q"
class_name class.Cross = codes "x"

-- a text of this class and size at a place
abbrev pub label : Lettering → ℤ → Spot → Placement
label c size at = record { at = at; size = size; class = c }

-- the beginning of a text's element
abbrev pub text_front : Placement → List ℕ
text_front l =
    joined (codes "<text transform=\"matrix(" ∷ signed_decimal l.size ∷ codes " 0 0 " ∷ signed_decimal l.size ∷ codes " " ∷ signed_decimal l.at.x
    ∷ codes " " ∷ signed_decimal l.at.y ∷ codes ")\"" ∷ attribute l.class ∷ codes ">" ∷ [])

-- a text of these words
abbrev pub text : Placement → List ℕ → List ℕ
text l words = text_front l ++ (words ++ codes "</text>\n")

-- the beginning of a path
abbrev pub path_front : Class → List ℕ
path_front c = joined (codes "<path class=\"" ∷ class_name c ∷ codes "\" d=\"" ∷ [])

-- a path of an outline
abbrev pub path : Class → Outline → List ℕ
path c outline = path_front c ++ (outline_text outline ++ codes "\"/>\n")

-- the same with a tooltip
abbrev pub told : Class → Outline → List ℕ → List ℕ
told c outline tip = path_front c ++ (outline_text outline ++ (codes "\"><title>" ++ (tip ++ codes "</title></path>\n")))
