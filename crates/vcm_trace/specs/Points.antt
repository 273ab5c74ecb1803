-- The rows of measured points: fields with commas between them.
use Rattle.std.specs.Prelude.{ℕ, ℤ, Bool, true, false, if◌then◌else◌, List, [], ◌∷◌, ◌++◌, Option, Some, None, decimal, codes}
use Rattle.std.specs.Fmt.{signed_decimal}
use Rattle.vcm_num.specs.declared.axis.Axis.{Axis}
use Rattle.vcm_num.specs.declared.point.Point.{Point}
use Rattle.vcm_num.specs.Axis.{unit}
use Rattle.vcm_num.specs.Point.{coordinate}
use Rattle.vcm_num.specs.Texts.{thousandths}
use Rattle.vcm_spec.specs.declared.feature.Feature.{Feature}
use Rattle.vcm_spec.specs.declared.stop.StopPlace.{StopPlace}
use Rattle.vcm_spec.specs.Effect.{at_index}
use Rattle.vcm_spec.specs.Frame.{Frame, direction, to_machine}
use Rattle.vcm_spec.specs.Outcome.{Outcome, Gives, Stops, point_at}
use Rattle.vcm_spec.specs.Setup.{Tables}
use Rattle.vcm_spec.specs.World.{World}
use Rattle.vcm_report.specs.Printed.{in_a_row, point_text, name_at}
use Rattle.vcm_code.specs.declared.code.Code.{Code}
use Rattle.vcm_spec.specs.Workpiece.{Workpiece}
use Rattle.vcm_trace.specs.declared.told.Told.{Told}
use Rattle.vcm_trace.specs.declared.told.Told.TheVariants as told
use Rattle.vcm_trace.specs.Lines.{told_of}
use Rattle.vcm_trace.specs.Framed.{Frames, FramedStep}
use Rattle.vcm_trace.specs.Deviations.{is_same_frame, comparable, off_by, beside}
use Rattle.vcm_trace.specs.Rows.{RunRows, rows_front, rows_text}

-- the first line, without machine coordinates or with them
abbrev pub point_heading : Bool → List ℕ
point_heading false = codes "step,line,feature,nx,ny,nz,ax,ay,az,i,j,k,deviation,aside,frame,calls\n"
point_heading true = codes "step,line,feature,nx,ny,nz,ax,ay,az,i,j,k,deviation,aside,frame,mx,my,mz,mi,mj,mk,calls\n"

-- a length in millimetres, if there is one
abbrev pub length_text : Option ℤ → List ℕ
length_text (Some z) = thousandths z
length_text None = []

-- a place in millimetres: its coordinates, each with a comma behind it
abbrev pub place_fields : Point → List ℕ
place_fields at = point_text (codes ",") at ++ codes ","

-- the nominal place, if the feature was declared
abbrev pub nominal_fields : Option Feature → List ℕ
nominal_fields None = codes ",,,"
nominal_fields (Some f) = place_fields f.at

-- a direction: its unit vector, with commas likewise
abbrev pub direction_fields : Axis → List ℕ
direction_fields toward =
    in_a_row (signed_decimal (unit toward 0) ∷ codes "," ∷ signed_decimal (unit toward 1) ∷ codes "," ∷ signed_decimal (unit toward 2) ∷ codes "," ∷ [])

-- whether a feature was declared in the current frame, as a word; nothing, where it wasn't declared
abbrev pub frame_word : Option Frame → Frame → List ℕ
frame_word None current = []
frame_word (Some f) current = if is_same_frame f current then codes "same" else codes "other"

-- how far a point lies beside the line through its nominal place, and in which frame its feature was declared, each behind a comma
abbrev pub beside_fields : Option ℤ → List ℕ → List ℕ
beside_fields (Some z) word = in_a_row (codes "," ∷ thousandths z ∷ codes "," ∷ word ∷ [])
beside_fields None word = in_a_row (codes ",," ∷ word ∷ [])

-- how far it lies off a declared point that it may be compared with, along its direction and beside it, and this word
abbrev pub off_fields : Option Feature → Feature → List ℕ → List ℕ
off_fields comparable actual word = length_text (off_by comparable actual) ++ beside_fields (beside comparable actual) word

-- how many steps were taken, the source line and the name of the feature
abbrev pub row_front : (count line : ℕ) → List ℕ → List ℕ
row_front count line name = in_a_row (decimal count ∷ codes "," ∷ decimal line ∷ codes "," ∷ name ∷ codes "," ∷ [])

-- where it was touched, in which direction it was measured, and how far it lies off
abbrev pub actual_fields : Option Feature → Feature → List ℕ → List ℕ
actual_fields comparable actual word = place_fields actual.at ++ (direction_fields actual.toward ++ off_fields comparable actual word)

-- a place on the machine, if it has 64 bits
abbrev pub machine_place : Outcome Point → List ℕ
machine_place (Gives at) = place_fields at
machine_place (Stops why) = codes ",,,"

-- where a point of a frame was touched on the machine, and in which direction of the machine it was measured
abbrev pub machine_fields : Frame → Feature → List ℕ
machine_fields frame actual = codes "," ++ (machine_place (point_at (to_machine frame (coordinate actual.at))) ++ direction_fields (direction frame.turn actual.toward))

-- what stands before the last field, without machine coordinates or with them
abbrev pub more_fields : Bool → Frame → Feature → List ℕ
more_fields false frame actual = codes ","
more_fields true frame actual = machine_fields frame actual

-- the last field, and the end of the row
abbrev pub row_end : List ℕ → List ℕ
row_end calls = calls ++ codes "\n"

-- the row of a point that was measured, in part coordinates: with the declared point, and with that if the two may be compared
abbrev pub measured_row : (count line : ℕ) → List ℕ → Option Feature → Option Feature → Feature → List ℕ → List ℕ
measured_row count line name nominal comparable actual word =
    row_front count line name ++ (nominal_fields nominal ++ actual_fields comparable actual word)

-- the row of a point that was measured in the current frame, of a feature that was declared in such a one, if it is there: the two are compared where the frames are the
-- same, as `told_deviation` has it
abbrev pub point_row : Bool → Option Frame → Frame → (count line : ℕ) → List ℕ → Option Feature → Option Feature → (calls : List ℕ) → List ℕ
point_row is_machine declared current count line name nominal None calls = []
point_row is_machine declared current count line name nominal (Some actual) calls =
    (measured_row count line name nominal (comparable declared current nominal) actual (frame_word declared current) ++ more_fields is_machine current actual) ++ row_end calls

-- the row of a statement that tells this, in the state behind it: a measurement has one
abbrev pub told_row : Bool → Tables → Frames → (count line : ℕ) → World → Told → (calls : List ℕ) → List ℕ
told_row is_machine tables fs count line w (told.Measured f) calls =
    point_row is_machine (at_index fs f) w.frame count line (name_at tables.features f) (at_index w.nominal f) (at_index w.actual f) calls
told_row is_machine tables fs count line w _ calls = []

-- the row of a step that didn't stop
abbrev pub step_row : Bool → Tables → Frames → (count line : ℕ) → World → Option StopPlace → Told → (calls : List ℕ) → List ℕ
step_row is_machine tables fs count line w (Some place) told calls = []
step_row is_machine tables fs count line w None told calls = told_row is_machine tables fs count line w told calls

-- the row of a step, where features were declared in these frames; its last field is that of its statement's number
abbrev pub passage_row : Bool → (calls : ℕ → List ℕ) → Tables → FramedStep → List ℕ
passage_row is_machine calls tables s =
    step_row is_machine tables s.frames s.passage.count s.passage.statement.line s.passage.after s.passage.after.stop (told_of s.passage.statement.op) (calls s.passage.number)

-- a header, and a row for each point, without machine coordinates or with them, and with these last fields of the statements with these numbers
abbrev pub point_rows : Bool → (calls : ℕ → List ℕ) → RunRows
point_rows is_machine calls = record { before = point_heading is_machine; row = passage_row is_machine calls; after = λ count next line w. [] }

-- the points that were measured in the first so many steps
abbrev pub points_front : Bool → (ℕ → List ℕ) → Workpiece → Code → ℕ → List ℕ
points_front is_machine calls = rows_front (point_rows is_machine calls)

-- the points that are measured in a run for at most n steps
abbrev pub points_text : Bool → (ℕ → List ℕ) → Workpiece → Code → ℕ → List ℕ
points_text is_machine calls = rows_text (point_rows is_machine calls)
