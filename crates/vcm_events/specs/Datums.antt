-- Datums of points, and frames by their origins, said as statements that no text can write.
use Rattle.std.specs.Prelude.{ℕ, codes, Bool, true, false, List, [], ◌∷◌, Option, Some, None}
use Rattle.std.specs.Str.{bytes_eq}
use Rattle.vcm_spec.specs.declared.words.FrameAxis.{FrameAxis}
use Rattle.vcm_spec.specs.declared.words.FrameAxis.TheVariants as axes
use Rattle.vcm_spec.specs.declared.words.FeatureWord.{FeatureWord}
use Rattle.vcm_spec.specs.declared.words.FeatureWord.TheVariants as words
use Rattle.vcm_spec.specs.declared.words.Source.TheVariants.{Actual}
use Rattle.vcm_expr.specs.declared.expression.Term.{Term}
use Rattle.vcm_expr.specs.declared.expression.Term.TheVariants.{Variable}
use Rattle.vcm_expr.specs.Source.{Source, Plain, leaf_in}
use Rattle.vcm_forms.specs.Statements.{as_read}
use Rattle.vcm_forms.specs.declared.statement.Offset.{Offset}
use Rattle.vcm_forms.specs.declared.statement.Form.{Form}
use Rattle.vcm_forms.specs.declared.statement.Form.TheVariants.{Query}
use Rattle.vcm_events.specs.declared.event.Event.{Event}
use Rattle.vcm_events.specs.declared.event.Event.TheVariants.{Bind, Origin}
use Rattle.vcm_events.specs.Events.{event_name}

-- the coordinate of a feature along an axis
abbrev pub coordinate_of : FrameAxis → FeatureWord
coordinate_of axes.X = words.X
coordinate_of axes.Y = words.Y
coordinate_of axes.Z = words.Z

-- something happens to the frame or feature with this name
abbrev pub happens_to : Event → List ℕ → Form
happens_to e name = Query (as_read (event_name e)) Actual name words.X

-- a datum is defined as the feature with this name
abbrev pub bound : List ℕ → Form
bound f = happens_to Bind f

-- the origin of a frame along an axis lies on the feature with this name
abbrev pub origin_on : FrameAxis → List ℕ → Form
origin_on axis f = Query (as_read (event_name Origin)) Actual f (coordinate_of axis)

-- the length of a shift to such an origin
abbrev pub origin_length : Source
origin_length = Plain (Variable (event_name Origin) 0)

-- whether a term is such a length
abbrev pub is_origin_leaf : Option Term → Bool
is_origin_leaf (Some (Variable name e)) = bytes_eq name (event_name Origin)
is_origin_leaf t = false

-- whether a length is
abbrev pub is_origin : Source → Bool
is_origin e = is_origin_leaf (leaf_in e)

-- whether shifts are those to origins
abbrev pub are_origins : List Offset → Bool
are_origins [] = false
are_origins (o ∷ os) = is_origin o.length
