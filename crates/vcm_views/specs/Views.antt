-- What the views of a run show of a code beside a workpiece: their text, and the exit status.
use Rattle.std.specs.Prelude.{◌≡◌, ℕ, Bool, true, false, nat_eq, List, [], ◌∷◌, ◌++◌, map, Option, None}
use Rattle.std.specs.List.{list_any}
use Rattle.std.specs.Io.KnownBytes.{Appends, Keeps}
use Rattle.vcm_spec.specs.declared.stop.StopPlace.{StopPlace}
use Rattle.vcm_spec.specs.Setup.{Tables}
use Rattle.vcm_spec.specs.Workpiece.{Workpiece}
use Rattle.vcm_code.specs.declared.code.Code.{Code}
use Rattle.vcm_machine.specs.declared.ran.End.TheVariants.{NoMemory}
use Rattle.vcm_machine.specs.declared.ran.Ran.{Ran}
use Rattle.vcm_machine.specs.Running.{Running, started, later, RunEnded, HasRun}
use Rattle.vcm_state.specs.Held.{Held}
use Rattle.vcm_run.specs.Printed.{result_text}
use Rattle.vcm_job.specs.Jobs.{status_of}
use Rattle.vcm_job.specs.Views.{RunView}
use Rattle.vcm_steps.specs.Passages.{state_after}
use Rattle.vcm_steps.specs.declared.fault.Unfinished.TheVariants.{Memory}
use Rattle.vcm_trace.specs.Rows.{RunRows, rows_text, IsHalted}
use Rattle.vcm_trace.specs.Traces.{trace_rows}
use Rattle.vcm_trace.specs.Points.{point_rows}
use Rattle.vcm_margin.specs.declared.difference.Margin.{Margin}
use Rattle.vcm_margin.specs.Margin.{IsMargin}
use Rattle.vcm_margin.specs.Printed.{margin_text}
use Rattle.vcm_margin.specs.Backtrace.{margin_backtrace}
use Rattle.vcm_backtrace.specs.Sources.{Sourced, IsSourced}
use Rattle.vcm_backtrace.specs.Calls.{calls_field}
use Rattle.vcm_way.specs.Ways.{Kept}
use Rattle.vcm_way.specs.Following.{way_after}
use Rattle.vcm_picture.specs.Picture.{sheet, picture_text}
use Rattle.vcm_marks.specs.declared.mark.PlacedMark.{PlacedMark}
use Rattle.vcm_sheet.specs.declared.readings.Reading.{Reading}
use Rattle.vcm_sheet.specs.Content.{Filing, content}
use Rattle.vcm_sheet.specs.Sayings.{Saying, Says}
use Rattle.vcm_views.specs.declared.sheets.Titles.{Titles}
use Rattle.vcm_views.specs.declared.untried.Untried.{Untried}
use Rattle.vcm_views.specs.Readings.{run_readings}
use Rattle.vcm_views.specs.Untried.{lines_of, marks_with}
use Rattle.vcm_boxes.specs.declared.boxes.ProbeBox.{ProbeBox}
use Rattle.vcm_way.specs.Gone.{ways_of}
use Rattle.vcm_clearance.specs.declared.room.Room.{Room}
use Rattle.vcm_clearance.specs.Rooms.{AreRooms, is_met_room}
use Rattle.vcm_clearance.specs.Clearance.{contacts_front, clearance_text}
use Rattle.vcm_values.specs.Values.{values_text}
use Rattle.vcm_why.specs.Telling.{IsReason}
use Rattle.vcm_contacts.specs.Noted.{Found}
use Rattle.vcm_first_contact.specs.declared.telling.FirstTold.{FirstTold}
use Rattle.vcm_first_contact.specs.Telling.{IsFirstTold}
use Rattle.vcm_contacts.specs.Collecting.{AreContacts, AreNoContacts}
use Rattle.vcm_contacts.specs.Printed.{contacts_text}

-- a text that is written row by row in a run for at most n steps
pub record AreRows (t : RunRows) (part : Workpiece) (c : Code) (n : ℕ) (text : List ℕ) (status : ℕ) : Type 0 where
  pub text_is : text ≡ rows_text t part c n
  pub status_is : status ≡ status_of (state_after part c n).world.stop

-- the rows of the points that are measured in a run for at most n steps of a code from this program, or from none
pub record ArePointsOf (is_machine : Bool) (program : Option (List ℕ)) (part : Workpiece) (c : Code) (n : ℕ) (text : List ℕ) (status : ℕ) : Type 0 where
  pub source : Option Sourced
  pub is_source : IsSourced program source
  pub rows : AreRows (point_rows is_machine (calls_field source)) part c n text status

-- where memory was refused after so many steps of such a run, the header and the rows of these were written
pub record ArePointsHalted (is_machine : Bool) (program : Option (List ℕ)) (part : Workpiece) (c : Code) (n done : ℕ) (old new : Option (List ℕ)) : Type 0 where
  pub source : Option Sourced
  pub is_source : IsSourced program source
  pub halted : IsHalted (point_rows is_machine (calls_field source)) part c n done old new

-- a margin of a run for so many steps of a code from this program, or from none, as it is told
pub record IsMarginOf (program : Option (List ℕ)) (part : Workpiece) (c : Code) (done : ℕ) (tables : Tables) (text : List ℕ) : Type 0 where
  pub margin : Margin
  pub is_margin : IsMargin part c done margin
  pub source : Option Sourced
  pub is_source : IsSourced program source
  pub text_is : text ≡ margin_text tables margin (margin_backtrace source part c margin)

-- what is told of a run that came to the program's end: its margin; of any other run its result
abbrev pub TellsMargin : Bool → Option (List ℕ) → Workpiece → Code → Held → ℕ → List ℕ → Type 0
TellsMargin true program part c held done text = IsMarginOf program part c done held.tables text
TellsMargin false program part c held done text = text ≡ result_text held done

-- a run of a code for at most n steps came to this state, with the code's tables
pub record HasRunTo (part : Workpiece) (c : Code) (n : ℕ) (held : Held) (ran : Ran) : Type 0 where
  pub new : Running
  pub run : HasRun n (started part c) new ran
  pub state : held.state ≡ new.state.world
  pub tables : held.tables ≡ new.code.tables

-- the margin of a run that memory did not cut short, or its result
pub record IsMarginOrResult (program : Option (List ℕ)) (part : Workpiece) (c : Code) (n : ℕ) (text : List ℕ) (status : ℕ) : Type 0 where
  pub held : Held
  pub ran : Ran
  pub run : HasRunTo part c n held ran
  pub ample : ran.end ≡ NoMemory → ⊥
  pub told : TellsMargin (nat_eq status 0) program part c held ran.done text
  pub status_is : status ≡ status_of held.state.stop

-- the picture of a run that came to this state after so many steps, with what is kept of its way, and of which this wasn't tried
abbrev pub picture_of : Workpiece → Held → ℕ → Kept → Bool → Untried → List ℕ
picture_of part held done way is_close untried =
    picture_text (sheet part held done (marks_with untried way.marks) way.left_out is_close (lines_of untried))

-- the picture of a run that memory did not cut short
pub record IsPicture (part : Workpiece) (c : Code) (n : ℕ) (is_close : Bool) (untried : Untried) (text : List ℕ) (status : ℕ) : Type 0 where
  pub held : Held
  pub ran : Ran
  pub run : HasRunTo part c n held ran
  pub ample : ran.end ≡ NoMemory → ⊥
  pub text_is : text ≡ picture_of part held ran.done (way_after part c ran.done) is_close untried
  pub status_is : status ≡ status_of held.state.stop

-- the exit status of a clearance: 3 where a box is met, else that of the run
abbrev pub clearance_status : Bool → Option StopPlace → ℕ
clearance_status true stop = 3
clearance_status false stop = status_of stop

-- the text of a program, if it is asked for
abbrev pub asked_for : Bool → Option (List ℕ) → Option (List ℕ)
asked_for true program = program
asked_for false program = None

-- the clearance of boxes in a run for at most n steps of a code from this program or from none, beside blocks with these names, with what is told of ways that weren't tried
pub record IsClearanceOf (program : Option (List ℕ)) (names : List (List ℕ)) (untried : List ℕ) (part : Workpiece) (boxes : List ProbeBox) (c : Code) (n : ℕ) (text : List ℕ) (status : ℕ) : Type 0 where
  pub rooms : List Room
  pub are_rooms : AreRooms part.blocks boxes (ways_of part c n) rooms
  pub source : Option Sourced
  pub is_source : IsSourced program source
  pub text_is : text ≡ clearance_text names untried source part boxes c n rooms
  pub status_is : status ≡ clearance_status (list_any is_met_room rooms) (state_after part c n).world.stop

-- the contacts of boxes in the first so many steps of a run of such a code were written, and nothing else
pub record AreContactsWritten (program : Option (List ℕ)) (names : List (List ℕ)) (part : Workpiece) (boxes : List ProbeBox) (c : Code) (done : ℕ) (old new : Option (List ℕ)) : Type 0 where
  pub source : Option Sourced
  pub is_source : IsSourced program source
  pub written : Appends old new (contacts_front names source part boxes c done)

-- a run for at most n steps was refused memory after so many of them
abbrev pub IsHaltedAfter : Workpiece → Code → ℕ → ℕ → Type 0
IsHaltedAfter part c n done = RunEnded n (started part c) (later done (started part c)) done NoMemory

-- and nothing was written
abbrev pub WroteNothing : Workpiece → Code → ℕ → ℕ → Option (List ℕ) → Option (List ℕ) → Type 0
WroteNothing part c n done old new = IsHaltedAfter part c n done × Keeps old new

-- what is filed of a run that came to this state after so many steps, with these marks, before which so many pieces are left out, and with what its steps measured
abbrev pub filed_with : Titles → Workpiece → Held → ℕ → List PlacedMark → ℕ → List Reading → Filing
filed_with t part held done marks left_out readings = record {
  part = part;
  held = held;
  done = done;
  marks = marks;
  left_out = left_out;
  readings = readings;
  is_close = t.is_close;
  lines = t.lines;
  program_name = t.program_name.now;
  part_name = t.part_name.now;
  block_names = map (λ n. n.items) t.block_names.now;
  untried = lines_of t.untried;
  paper = t.paper;
  title = t.title.now;
}

-- what the sheet of such a run says, with what is kept of its way
abbrev pub sheet_said : Titles → Workpiece → Held → ℕ → Kept → List Reading → List Saying
sheet_said t part held done way readings = content (filed_with t part held done (marks_with t.untried way.marks) way.left_out readings)

-- a sheet of a run that memory did not cut short, with the run's exit status: what it says is said, how it is painted isn't
pub record IsSheet (t : Titles) (part : Workpiece) (c : Code) (n : ℕ) (text : List ℕ) (status : ℕ) : Type 0 where
  pub held : Held
  pub ran : Ran
  pub run : HasRunTo part c n held ran
  pub ample : ran.end ≡ NoMemory → ⊥
  pub says : Says (sheet_said t part held ran.done (way_after part c ran.done) (run_readings part c n (way_after part c ran.done))) text
  pub status_is : status ≡ status_of held.state.stop

-- the result of a run that memory did not cut short, and the values of variables behind it
pub record IsResultWith (places : List ℕ) (part : Workpiece) (c : Code) (n : ℕ) (text : List ℕ) (status : ℕ) : Type 0 where
  pub held : Held
  pub ran : Ran
  pub run : HasRunTo part c n held ran
  pub ample : ran.end ≡ NoMemory → ⊥
  pub text_is : text ≡ result_text held ran.done ++ values_text held.tables held.state.variables places
  pub status_is : status ≡ status_of held.state.stop

-- why a run of a code with this text stops, beside blocks with these names
pub record IsWhyOf (names : List (List ℕ)) (program : Option (List ℕ)) (part : Workpiece) (c : Code) (n : ℕ) (text : List ℕ) (status : ℕ) : Type 0 where
  pub stop : Option StopPlace
  pub told : IsReason names program part c n stop (λ t. t ≡ text)
  pub status_is : status ≡ status_of stop

-- the exit status of contacts: 3 where there is one, else that of the run
abbrev pub contacts_status : List Found → Option StopPlace → ℕ
contacts_status [] stop = status_of stop
contacts_status (f ∷ fs) stop = 3

-- the contacts of a run for at most n steps of a code from this program or from none, beside blocks with these names
pub record AreContactsOf (names : List (List ℕ)) (program : Option (List ℕ)) (part : Workpiece) (c : Code) (n : ℕ) (text : List ℕ) (status : ℕ) : Type 0 where
  pub source : Option Sourced
  pub is_source : IsSourced program source
  pub found : List Found
  pub stop : Option StopPlace
  pub are : AreContacts source part c n found stop
  pub text_is : text ≡ contacts_text names c.tables found stop n
  pub status_is : status ≡ contacts_status found stop

-- the exit status of the first contact of a box: 3 where there is one, else that of the run
abbrev pub first_status : Bool → Option StopPlace → ℕ
first_status true stop = 3
first_status false stop = status_of stop

-- what is told of the first contact of these boxes in a run of such a code, beside blocks with these names
pub record IsFirstOf (names : List (List ℕ)) (boxes : List ProbeBox) (program : Option (List ℕ)) (part : Workpiece) (c : Code) (n : ℕ) (text : List ℕ) (status : ℕ) : Type 0 where
  pub first : FirstTold
  pub told : IsFirstTold names program part boxes c n first (λ t. t ≡ text)
  pub status_is : status ≡ first_status first.is_met first.stop

-- ---- the views

-- the trace; where memory was refused, the header and the lines of the steps before were written
abbrev pub trace_view : RunView
trace_view = record { tells = λ program notices. AreRows trace_rows; halted = λ program. IsHalted trace_rows }

-- the measured points, likewise, without machine coordinates or with them
abbrev pub points_view : Bool → RunView
points_view is_machine = record { tells = λ program notices. ArePointsOf is_machine program; halted = λ program. ArePointsHalted is_machine program }

-- the margin, or the result
abbrev pub margin_view : RunView
margin_view = record { tells = λ program notices. IsMarginOrResult program; halted = λ program. WroteNothing }

-- the clearance of boxes, with the backtraces of statements, if that is asked for; where memory was refused, the contacts in the steps before were written
abbrev pub clearance_view : Bool → List (List ℕ) → List ℕ → List ProbeBox → RunView
clearance_view tells_calls names untried boxes = record {
  tells = λ program notices part c n. IsClearanceOf (asked_for tells_calls program) names untried part boxes c n;
  halted = λ program part c n done old new. IsHaltedAfter part c n done × AreContactsWritten (asked_for tells_calls program) names part boxes c done old new;
}

-- the first contact of boxes
abbrev pub first_view : List (List ℕ) → List ProbeBox → RunView
first_view names boxes = record { tells = λ program notices. IsFirstOf names boxes program; halted = λ program. WroteNothing }

-- the picture
abbrev pub picture_view : Bool → Untried → RunView
picture_view is_close untried = record { tells = λ program notices part c n. IsPicture part c n is_close untried; halted = λ program. WroteNothing }

-- the sheet
abbrev pub sheet_view : Titles → RunView
sheet_view t = record { tells = λ program notices. IsSheet t; halted = λ program. WroteNothing }

-- why it stops
abbrev pub why_view : List (List ℕ) → RunView
why_view names = record { tells = λ program notices. IsWhyOf names program; halted = λ program. WroteNothing }

-- the contacts; where memory was refused to the run that goes on after each, nothing was written
abbrev pub contacts_view : List (List ℕ) → RunView
contacts_view names = record {
  tells = λ program notices. AreContactsOf names program;
  halted = λ program part c n done old new. AreNoContacts part c n (Memory done) × Keeps old new;
}

-- the result with the values of the variables at these places
abbrev pub values_view : List ℕ → RunView
values_view places = record { tells = λ program notices. IsResultWith places; halted = λ program. WroteNothing }
