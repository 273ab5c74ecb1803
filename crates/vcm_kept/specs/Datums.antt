-- Datums that are points, and frames whose origins lie on them.
use Rattle.std.specs.Prelude.{ℕ, pos, Bool, true, false, List, [], ◌∷◌, ◌++◌, map, Option, Some, None}
use Rattle.vcm_num.specs.declared.number.Kind.TheVariants as kinds
use Rattle.vcm_num.specs.declared.number.Literal.TheVariants.{Thousandths}
use Rattle.vcm_spec.specs.declared.expression.BinaryOp.TheVariants.{Compare}
use Rattle.vcm_spec.specs.declared.expression.Relation.TheVariants.{Equal, NotEqual}
use Rattle.vcm_spec.specs.declared.words.FrameAxis.{FrameAxis}
use Rattle.vcm_spec.specs.declared.words.FrameAxis.TheVariants as axes
use Rattle.vcm_spec.specs.declared.words.FeatureWord.{FeatureWord}
use Rattle.vcm_spec.specs.declared.words.FeatureWord.TheVariants as words
use Rattle.vcm_spec.specs.declared.words.Source.TheVariants.{Actual}
use Rattle.vcm_expr.specs.declared.expression.Term.TheVariants.{Number}
use Rattle.vcm_expr.specs.Source.{Source, Plain, Pair}
use Rattle.vcm_forms.specs.declared.statement.Offset.{Offset}
use Rattle.vcm_forms.specs.declared.statement.Form.TheVariants as form
use Rattle.vcm_events.specs.Joined.{pair}
use Rattle.vcm_templates.specs.declared.guarded.Guarded.{Guarded}
use Rattle.vcm_templates.specs.declared.carried.Carried.TheVariants as carried
use Rattle.vcm_templates.specs.declared.carried.Item.TheVariants as items
use Rattle.vcm_templates.specs.declared.carried.TheConstants.{IMPLICIT}
use Rattle.vcm_templates.specs.declared.lengths.Length.{Length}
use Rattle.vcm_templates.specs.declared.lengths.Length.TheVariants as lengths
use Rattle.vcm_templates.specs.Carried.{carried_name, carried_term, item_term, length_target, length_term}
use Rattle.vcm_templates.specs.Expressions.{number, both, in_frame}
use Rattle.vcm_templates.specs.Templates.{stands, set, set_item, declare_item, asks, where_known, elsewhere, ends}
use Rattle.vcm_kept.specs.Places.{length_asks, length_names}

-- these statements, in a text that has datums
abbrev pub where_datums : Bool → List Guarded → List Guarded
where_datums true gs = gs
where_datums false gs = []

-- ---- features that are datums

-- the feature at an index is a datum from here on, as it was measured last
abbrev pub binds_at : ℕ → ℕ → List Guarded
binds_at line i = set_item line items.Bound i (Plain (item_term items.Measured i)) ∷ []

-- DATDEF of a feature, if it is declared
abbrev pub binds : ℕ → Option ℕ → List Guarded
binds line None = []
binds line (Some i) = binds_at line i

-- a feature that is measured again is the datum that it was on some machines alone
abbrev pub unbinds : Bool → ℕ → ℕ → List Guarded
unbinds true line i = set_item line items.Bound i (Plain (number (pos 0))) ∷ []
unbinds false line i = []

-- whether it is a datum is carried with it
abbrev pub declares_bound_at : Bool → ℕ → ℕ → List Guarded
declares_bound_at true line i = declare_item line items.Bound i ∷ []
declares_bound_at false line i = []

-- ---- the axes of frames

-- the axes of the frame at an index are those of the current one
abbrev pub keeps_axes : Bool → ℕ → ℕ → List Guarded
keeps_axes true line i = set_item line items.Axes i (Plain (carried_term carried.Straight)) ∷ []
keeps_axes false line i = []

-- the current frame has those of the frame at an index
abbrev pub recalls_axes : Bool → ℕ → ℕ → List Guarded
recalls_axes true line i = set line carried.Straight (Plain (item_term items.Axes i)) ∷ []
recalls_axes false line i = []

-- it has those of the machine
abbrev pub straightens : Bool → ℕ → List Guarded
straightens true line = set line carried.Straight (Plain (number (pos 1))) ∷ []
straightens false line = []

-- it has others
abbrev pub turns_axes : Bool → ℕ → List Guarded
turns_axes true line = set line carried.Straight (Plain (number (pos 0))) ∷ []
turns_axes false line = []

-- they are carried with each frame
abbrev pub declares_axes : Bool → ℕ → ℕ → List Guarded
declares_axes true line i = declare_item line items.Axes i ∷ []
declares_axes false line i = []

-- ---- origins

-- where a frame's origin along an axis is carried
abbrev pub origin_of : FrameAxis → Length
origin_of axes.X = lengths.OriginX
origin_of axes.Y = lengths.OriginY
origin_of axes.Z = lengths.OriginZ

-- where the coordinate that a word of a feature says is carried; the words of its direction say none
abbrev pub origin_by : FeatureWord → Length
origin_by words.X = lengths.OriginX
origin_by words.Y = lengths.OriginY
origin_by words.Z = lengths.OriginZ
origin_by w = lengths.OriginX

-- the component of its direction along the same axis
abbrev pub along_by : FeatureWord → FeatureWord
along_by words.X = words.I
along_by words.Y = words.J
along_by words.Z = words.K
along_by w = w

-- a frame by its origins begins: all are known so far
abbrev pub begins_origins : Bool → ℕ → List Guarded
begins_origins true line = set line carried.Origins (Plain (number (pos 1))) ∷ []
begins_origins false line = []

-- an origin isn't known
abbrev pub origin_lost : ℕ → Guarded
origin_lost line = set line carried.Origins (Plain (number (pos 0)))

-- what has to be known of a datum: its feature was measured in this frame, and not again since, and the axes of the frame are the machine's
unfoldable pub origin_asks : ℕ → Source
origin_asks i =
    both (Pair (Compare Equal) (Plain (item_term items.Measured i)) in_frame) (both (Pair (Compare Equal) (Plain (item_term items.Bound i)) in_frame)
    (both (pair (Compare Equal) (carried_term carried.Straight) (number (pos 1))) length_asks))

-- whether a point's direction goes along the axis of the origin
abbrev pub goes_along : Source
goes_along = pair (Compare NotEqual) (length_term lengths.Along) (Number (Thousandths (pos 0)))

-- the direction of the point of a datum, if it is known at all
unfoldable pub asks_origin : ℕ → ℕ → ℕ → List ℕ → FeatureWord → List Guarded
asks_origin line e i l word =
    asks line (origin_asks i) ∷ where_known line ∷ stands line e (form.Query (length_target lengths.Along) Actual l (along_by word)) ∷ asks line goes_along
    ∷ ends line ∷ []

-- its coordinate, where it is known
unfoldable pub keeps_origin : ℕ → ℕ → List ℕ → FeatureWord → List Guarded
keeps_origin line e l word =
    where_known line ∷ stands line e (form.Query (length_target (origin_by word)) Actual l word) ∷ elsewhere line ∷ origin_lost line ∷ ends line ∷ []

-- an origin of a frame lies on the point of the feature at an index
abbrev pub originates_at : ℕ → ℕ → ℕ → List ℕ → FeatureWord → List Guarded
originates_at line e i l word = asks_origin line e i l word ++ keeps_origin line e l word

-- an origin of a frame, on a feature that is declared or not
abbrev pub originates : ℕ → ℕ → List ℕ → FeatureWord → Option ℕ → List Guarded
originates line e l word None = origin_lost line ∷ []
originates line e l word (Some i) = originates_at line e i l word

-- the shift to an origin, as it is carried
abbrev pub shift_of : Offset → Offset
shift_of o = record { axis = o.axis; length = Plain (length_term (origin_of o.axis)) }

-- what has to be known for a frame by its origins: all of them
unfoldable pub frame_asks : Source
frame_asks = both (pair (Compare Equal) (carried_term carried.Origins) (number (pos 1))) length_asks

-- ---- declarations

-- the lengths that origins are carried in
abbrev pub origin_lengths : List Length
origin_lengths = lengths.Along ∷ lengths.OriginX ∷ lengths.OriginY ∷ lengths.OriginZ ∷ []

-- what is carried of datums is declared: the axes at the start are the machine's
unfoldable pub declares_datums : Bool → List Guarded
declares_datums true =
    stands 1 IMPLICIT (form.Declaration kinds.Real (length_names origin_lengths))
    ∷ stands 1 IMPLICIT (form.Declaration kinds.Int (carried_name carried.Straight ∷ carried_name carried.Origins ∷ [])) ∷ straightens true 1
declares_datums false = []
