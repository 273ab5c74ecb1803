-- What the statements of features and frames mean once their names are looked up. The features stand in the order of their first FEAT, the
-- frames in that of their first TRANS or ROTATE.
use Rattle.std.specs.Prelude.{ℕ, pos, Bool, true, false, List, [], ◌∷◌, slice_get, Option, Some, None, Result, Ok, Err}
use Rattle.vcm_num.specs.declared.axis.Axis.{Axis}
use Rattle.vcm_num.specs.declared.number.Kind.{Kind}
use Rattle.vcm_num.specs.declared.number.Kind.TheVariants as kinds
use Rattle.vcm_lines.specs.declared.fault.FaultCode.{FaultCode}
use Rattle.vcm_lines.specs.declared.fault.FaultCode.TheVariants.{UnknownName, BadType, Unbalanced, MeasBody}
use Rattle.vcm_spec.specs.Expression.{Tree, Value}
use Rattle.vcm_spec.specs.declared.expression.Operand.TheVariants.{Thousandths}
use Rattle.vcm_spec.specs.declared.words.FrameAxis.{FrameAxis}
use Rattle.vcm_spec.specs.declared.words.FrameAxis.TheVariants as axes
use Rattle.vcm_spec.specs.declared.words.FeatureWord.{FeatureWord}
use Rattle.vcm_spec.specs.declared.words.Quarters.{Quarters}
use Rattle.vcm_spec.specs.declared.words.Setting.{Setting}
use Rattle.vcm_spec.specs.declared.words.Source.{Source as Side}
use Rattle.vcm_spec.specs.Simple.{Simple}
use Rattle.vcm_spec.specs.declared.simple.Simple.TheVariants.{Feat, PtMeas, SnSet, Trans, Rotate, Recall, Obtain, Output}
use Rattle.vcm_expr.specs.declared.typing.Want.TheVariants as wants
use Rattle.vcm_spec.specs.Setup.{Variable, kinds_of}
use Rattle.vcm_expr.specs.Source.{Source}
use Rattle.vcm_expr.specs.Typing.{typed_for}
use Rattle.vcm_forms.specs.declared.statement.Offset.{Offset}
use Rattle.vcm_forms.specs.declared.statement.Coordinates.{Coordinates}
use Rattle.vcm_forms.specs.declared.statement.Target.{Target}
use Rattle.vcm_tree.specs.Sentences.{Step, Measures, EndsMeasure}
use Rattle.vcm_tree.specs.Variables.{target_of}
use Rattle.vcm_tree.specs.Blocks.{Opened, InMeasure}
use Rattle.vcm_spec.specs.Results.{◌>>=◌}
use Rattle.vcm_program.specs.Titles.{known, entered}

-- three lengths, from the left
abbrev pub lengths : List Variable → Coordinates → Result (Tree × Tree × Tree) FaultCode
lengths vs p =
    typed_for vs wants.Length p.x >>= λ a.
    typed_for vs wants.Length p.y >>= λ b.
    typed_for vs wants.Length p.z >>= λ c. Ok (a, b, c)

-- FEAT of the feature at this index
abbrev pub declared_at : List Variable → Coordinates → Axis → ℕ → Result (Simple Tree) FaultCode
declared_at vs p d i = lengths vs p >>= λ t. Ok (Feat i t.0 t.1 t.2 d)

-- FEAT
abbrev pub declared : List (List ℕ) → List Variable → List ℕ → Coordinates → Axis → Result (Simple Tree) FaultCode
declared fs vs l p d = entered fs l >>= declared_at vs p d

-- MEAS of a feature that is declared above
abbrev pub opened_measure : List (List ℕ) → List ℕ → Result Step FaultCode
opened_measure fs l = known fs l >>= λ i. Ok (Measures i)

-- the feature of the innermost block, if it is that of a MEAS
abbrev pub measuring : List Opened → Option ℕ
measuring (InMeasure f ∷ bs) = Some f
measuring _ = None

-- PTMEAS stands in a MEAS block, once
abbrev pub touched_by : Option ℕ → Bool → Result ℕ FaultCode
touched_by (Some f) false = Ok f
touched_by _ _ = Err MeasBody

-- the feature that a PTMEAS here measures
abbrev pub touched_in : List Opened → Bool → Result ℕ FaultCode
touched_in bs t = touched_by (measuring bs) t

-- PTMEAS
abbrev pub touched : List Opened → Bool → List Variable → Coordinates → Option Axis → Result (Simple Tree) FaultCode
touched bs t vs p given = touched_in bs t >>= λ i. lengths vs p >>= λ t. Ok (PtMeas i t.0 t.1 t.2 given)

-- ENDMES stands at the end of a MEAS block, which has a PTMEAS
abbrev pub measure_ended : List Opened → Bool → Result Step FaultCode
measure_ended (InMeasure f ∷ bs) true = Ok EndsMeasure
measure_ended (InMeasure f ∷ bs) false = Err MeasBody
measure_ended _ _ = Err Unbalanced

-- SNSET
abbrev pub configured : List Variable → Setting → Source → Result (Simple Tree) FaultCode
configured vs which e = typed_for vs wants.Length e >>= λ t. Ok (SnSet which t)

-- three shifts, along x, y and z
pub record Shifts : Type 0 where
  pub x : Tree
  pub y : Tree
  pub z : Tree

-- no shift
abbrev pub no_shifts : Shifts
no_shifts = record { x = Value (Thousandths (pos 0)); y = Value (Thousandths (pos 0)); z = Value (Thousandths (pos 0)) }

-- the shifts with this one along an axis
abbrev pub with_shift : Shifts → FrameAxis → Tree → Shifts
with_shift s axes.X t = record s { x = t }
with_shift s axes.Y t = record s { y = t }
with_shift s axes.Z t = record s { z = t }

-- the shifts with those of TRANS, in the order in which they are written
abbrev pub shifts_of : List Variable → Shifts → List Offset → Result Shifts FaultCode
shifts_of vs s [] = Ok s
shifts_of vs s (o ∷ os) = typed_for vs wants.Length o.length >>= λ t. shifts_of vs (with_shift s o.axis t) os

-- TRANS
abbrev pub shifted : List (List ℕ) → List Variable → List ℕ → List Offset → Result (Simple Tree) FaultCode
shifted ds vs l os = entered ds l >>= λ i. shifts_of vs no_shifts os >>= λ s. Ok (Trans i s.x s.y s.z)

-- ROTATE
abbrev pub rotated : List (List ℕ) → List ℕ → FrameAxis → Quarters → Result (Simple Tree) FaultCode
rotated ds l axis n = entered ds l >>= λ i. Ok (Rotate i axis n)

-- RECALL
abbrev pub recalled : List (List ℕ) → List ℕ → Result (Simple Tree) FaultCode
recalled ds l = known ds l >>= λ i. Ok (Recall i)

-- the variable of an OBTAIN is the one at this place of the table, if it is a REAL
abbrev pub real_to : ℕ → Option Kind → Result ℕ FaultCode
real_to i (Some kinds.Real) = Ok i
real_to i (Some _) = Err BadType
real_to i None = Err UnknownName

-- a variable at this place, if it is a REAL
abbrev pub real_by : List Variable → Option ℕ → Result ℕ FaultCode
real_by vs None = Err UnknownName
real_by vs (Some i) = real_to i (slice_get (kinds_of vs) i)

-- the REAL variable that a target is
abbrev pub real_named : List Variable → Target → Result ℕ FaultCode
real_named vs t = real_by vs (target_of vs t)

-- OBTAIN
abbrev pub obtained : List (List ℕ) → List Variable → Target → Side → List ℕ → FeatureWord → Result (Simple Tree) FaultCode
obtained fs vs t side l word =
    real_named vs t >>= λ v. known fs l >>= λ i. Ok (Obtain v side i word)

-- OUTPUT
abbrev pub reported : List (List ℕ) → Side → List ℕ → Result (Simple Tree) FaultCode
reported fs side l = known fs l >>= λ i. Ok (Output side i)
