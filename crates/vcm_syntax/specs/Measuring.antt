-- The forms of the statements of frames, settings, features and measurements, each as a reader of what stands before its major word and of the
-- fields behind it.
use Rattle.std.specs.Prelude.{ℕ, Bool, nat_eq, if◌then◌else◌, codes, List, [], ◌∷◌, ◌++◌, drop, Option, Some, None, Result, Ok, Err}
use Rattle.std.specs.List.{list_any}
use Rattle.vcm_num.specs.Words.{look_up}
use Rattle.vcm_num.specs.declared.axis.Axis.{Axis}
use Rattle.vcm_lines.specs.declared.fault.FaultCode.{FaultCode}
use Rattle.vcm_lines.specs.declared.fault.FaultCode.TheVariants.{BadSyntax, Unsupported}
use Rattle.vcm_lines.specs.Lexemes.{Lexeme, Run}
use Rattle.vcm_spec.specs.Results.{◌>>=◌}
use Rattle.vcm_spec.specs.Words.{axis_number}
use Rattle.vcm_spec.specs.declared.words.FrameAxis.{FrameAxis}
use Rattle.vcm_spec.specs.declared.words.FrameAxis.TheVariants as axes
use Rattle.vcm_expr.specs.Parsing.{expr_of}
use Rattle.vcm_syntax.specs.declared.heads.Letter.TheVariants as letters
use Rattle.vcm_syntax.specs.declared.heads.Prefix.{Prefix}
use Rattle.vcm_forms.specs.declared.statement.Form.{Form}
use Rattle.vcm_forms.specs.declared.statement.Form.TheVariants.{Feature, Measure, Touch, Configure, Shift, Rotation, Restore, Query, Report}
use Rattle.vcm_forms.specs.declared.statement.Offset.{Offset}
use Rattle.vcm_lines.specs.Fault.{or_fault}
use Rattle.vcm_syntax.specs.Readers.{end_of, field, some_field}
use Rattle.vcm_syntax.specs.Places.{bare_of, titled_of, target_of, word_of, setting_of, axis_of, system_of, named_of, source_of, spot_of}
use Rattle.vcm_syntax.specs.Figures.{vector_of, angle_of, feature_word_of, one_of}

-- ---- shifts

-- the words of the axes along which a frame is shifted
abbrev pub origin_word : List ℕ → Option FrameAxis
origin_word w = look_up ((codes "XORIG", axes.X) ∷ (codes "YORIG", axes.Y) ∷ (codes "ZORIG", axes.Z) ∷ []) w

-- whether a shift is along the axis
abbrev pub is_along : FrameAxis → Offset → Bool
is_along a o = nat_eq (axis_number a) (axis_number o.axis)

-- an axis along which none of the shifts is
abbrev pub free_axis : List Offset → Option FrameAxis → Option FrameAxis
free_axis os None = None
free_axis os (Some a) = if list_any (is_along a) os then None else Some a

-- the axis that a field names, along which none of the shifts is
abbrev pub origin_in : List Offset → List Lexeme → Option FrameAxis
origin_in os (Run w ∷ []) = free_axis os (origin_word w)
origin_in os _ = None

-- one shift more: the word of an axis along which none is yet, and a length
abbrev pub offset_of : List Offset → List Lexeme → List Lexeme → Result Offset FaultCode
offset_of os w e = do
  a ← or_fault BadSyntax (origin_in os w)
  l ← expr_of e
  Ok (record { axis = a; length = l })

-- these shifts and more behind them, each in two fields, at most one along each axis
abbrev pub offsets_of : List Offset → List (List Lexeme) → Result (List Offset) FaultCode
offsets_of os [] = Ok os
offsets_of os (w ∷ []) = Err BadSyntax
offsets_of os (w ∷ e ∷ fs) = do
  o ← offset_of os w e
  offsets_of (os ++ o ∷ []) fs

-- ---- the forms

-- F(l)=FEAT/POINT,CART,e,e,e,n,n,n
abbrev pub feat_of : Prefix → List (List Lexeme) → Result Form FaultCode
feat_of p fs = do
  l ← titled_of letters.F p
  _ ← (field fs 0 >>= word_of (codes "POINT") Unsupported)
  _ ← (field fs 1 >>= system_of)
  s ← spot_of (drop 2 fs)
  d ← vector_of (drop 5 fs)
  _ ← end_of (drop 8 fs)
  Ok (Feature l s d)

-- MEAS/POINT,F(l),n
abbrev pub meas_of : Prefix → List (List Lexeme) → Result Form FaultCode
meas_of p fs = do
  _ ← bare_of p
  _ ← (field fs 0 >>= word_of (codes "POINT") BadSyntax)
  l ← (field fs 1 >>= named_of (codes "F"))
  _ ← (field fs 2 >>= one_of)
  _ ← end_of (drop 3 fs)
  Ok (Measure l)

-- a direction behind the lengths of a measurement, if fields are left
abbrev pub given_of : List (List Lexeme) → Result (Option Axis) FaultCode
given_of [] = Ok None
given_of (f ∷ fs) = do
  d ← vector_of (f ∷ fs)
  _ ← end_of (drop 2 fs)
  Ok (Some d)

-- PTMEAS/CART,e,e,e[,n,n,n]
abbrev pub ptmeas_of : Prefix → List (List Lexeme) → Result Form FaultCode
ptmeas_of p fs = do
  _ ← bare_of p
  _ ← (field fs 0 >>= word_of (codes "CART") BadSyntax)
  s ← spot_of (drop 1 fs)
  given ← given_of (drop 4 fs)
  Ok (Touch s given)

-- SNSET/word,e
abbrev pub snset_of : Prefix → List (List Lexeme) → Result Form FaultCode
snset_of p fs = do
  _ ← bare_of p
  which ← (field fs 0 >>= setting_of)
  e ← (field fs 1 >>= expr_of)
  _ ← end_of (drop 2 fs)
  Ok (Configure which e)

-- D(l)=TRANS/word,e{,word,e}
abbrev pub trans_of : Prefix → List (List Lexeme) → Result Form FaultCode
trans_of p fs = do
  l ← titled_of letters.D p
  _ ← some_field fs
  os ← offsets_of [] fs
  Ok (Shift l os)

-- D(l)=ROTATE/word,n
abbrev pub rotate_of : Prefix → List (List Lexeme) → Result Form FaultCode
rotate_of p fs = do
  l ← titled_of letters.D p
  a ← (field fs 0 >>= axis_of)
  n ← (field fs 1 >>= angle_of)
  _ ← end_of (drop 2 fs)
  Ok (Rotation l a n)

-- RECALL/D(l)
abbrev pub recall_of : Prefix → List (List Lexeme) → Result Form FaultCode
recall_of p fs = do
  _ ← bare_of p
  l ← (field fs 0 >>= named_of (codes "D"))
  _ ← end_of (drop 1 fs)
  Ok (Restore l)

-- v=OBTAIN/F(l),n, and v=OBTAIN/FA(l),n
abbrev pub obtain_of : Prefix → List (List Lexeme) → Result Form FaultCode
obtain_of p fs = do
  v ← target_of p
  s ← (field fs 0 >>= source_of)
  w ← (field fs 1 >>= feature_word_of)
  _ ← end_of (drop 2 fs)
  Ok (Query v s.0 s.1 w)

-- more fields are a form that is left out
abbrev pub no_more : List (List Lexeme) → Result (Unit {0}) FaultCode
no_more [] = Ok tt
no_more (f ∷ fs) = Err Unsupported

-- OUTPUT/F(l), and OUTPUT/FA(l)
abbrev pub output_of : Prefix → List (List Lexeme) → Result Form FaultCode
output_of p fs = do
  _ ← bare_of p
  s ← (field fs 0 >>= source_of)
  _ ← no_more (drop 1 fs)
  Ok (Report s.0 s.1)
