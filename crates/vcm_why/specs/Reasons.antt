-- What is told of a run.
use Rattle.std.specs.Prelude.{ℕ, Bool, true, false, List, [], ◌++◌, slice_get, Option, Some, None, codes}
use Rattle.vcm_spec.specs.declared.stop.Stop.{Stop}
use Rattle.vcm_spec.specs.declared.stop.Stop.TheVariants.{Ended}
use Rattle.vcm_spec.specs.declared.stop.StopPlace.{StopPlace}
use Rattle.vcm_spec.specs.Setup.{Tables}
use Rattle.vcm_spec.specs.Workpiece.{Workpiece}
use Rattle.vcm_spec.specs.World.{World}
use Rattle.vcm_code.specs.Code.{CodeStatement}
use Rattle.vcm_report.specs.Printed.{stopped_line, no_stop_line}
use Rattle.vcm_naming.specs.Naming.{name_below, stop_block}
use Rattle.vcm_state.specs.Held.{Held}
use Rattle.vcm_cause.specs.declared.cause.Cause.{Cause}
use Rattle.vcm_cause.specs.Behind.{Behind}
use Rattle.vcm_cause.specs.Cause.{cause_of}
use Rattle.vcm_why.specs.Causes.{cause_lines}
use Rattle.vcm_why.specs.Framed.{frame_lines}
use Rattle.vcm_why.specs.Hints.{hint_lines}
use Rattle.vcm_backtrace.specs.Sources.{Sourced}
use Rattle.vcm_backtrace.specs.Calls.{numbered_line}
use Rattle.vcm_backtrace.specs.Backtrace as backtrace

-- where the statement with this number comes from in a text: its line, the CALLs, and the loops round it
abbrev pub text_lines : Sourced → List CodeStatement → Held → (rounds : List ℕ) → (number line : ℕ) → List ℕ
text_lines t ss held rounds number line = numbered_line t.text line ++ backtrace.text_lines t ss held.tables held.state.variables rounds number

-- where it comes from, or that an image doesn't tell it
abbrev pub where_lines : Option Sourced → List CodeStatement → Held → (rounds : List ℕ) → (number line : ℕ) → List ℕ
where_lines (Some t) ss held rounds number line = text_lines t ss held rounds number line
where_lines None ss held rounds number line =
    codes "the source line, the calls and the loops stand in the program's text; an image has none\n"

-- the line of a stop, and the name of the block that it names, if that is among these
abbrev pub stop_front : List (List ℕ) → Tables → StopPlace → List ℕ
stop_front names tables place = stopped_line tables place ++ name_below names (stop_block place.stop)

-- whether the lines are those of a text
abbrev pub is_of_text : Option Sourced → Bool
is_of_text (Some t) = true
is_of_text None = false

-- what would mend a stop at a statement, if there is one
abbrev pub hints_at : Workpiece → World → Option CodeStatement → Stop → Cause → List ℕ
hints_at part w (Some s) why cause = hint_lines part w s.op why cause
hints_at part w None why cause = []

-- what is told of the motion of a stop at a statement, what would mend it, and, where lines are those of a text, the frame that it stopped in, which a statement of this line made
abbrev pub motion_lines : Workpiece → World → Option CodeStatement → (is_text : Bool) → (framed : ℕ) → Stop → Cause → List ℕ
motion_lines part w s is_text framed why cause = cause_lines cause ++ (hints_at part w s why cause ++ frame_lines w.frame is_text framed cause)

-- a stop that isn't the program's end: its line with the name of its block, where its statement comes from, and what is told of its motion
abbrev pub stop_lines : List (List ℕ) → Option Sourced → Workpiece → List CodeStatement → Held → (number : ℕ) → Behind → StopPlace → List ℕ
stop_lines names t part ss held number b place =
    stop_front names held.tables place ++ (where_lines t ss held b.rounds number place.line ++ motion_lines part held.state (slice_get ss number) (is_of_text t) b.framed place.stop (cause_of part b.marks))

-- whether a stop is the program's end
abbrev pub is_ended : Stop → Bool
is_ended Ended = true
is_ended why = false

-- the program's end alone, or what is told of any other stop
abbrev pub placed_lines : Bool → List (List ℕ) → Option Sourced → Workpiece → List CodeStatement → Held → (number : ℕ) → Behind → StopPlace → List ℕ
placed_lines true names t part ss held number b place = stopped_line held.tables place
placed_lines false names t part ss held number b place = stop_lines names t part ss held number b place

-- what is told of a stop, or of so many steps without one
abbrev pub lines_at : Option StopPlace → List (List ℕ) → Option Sourced → Workpiece → List CodeStatement → Held → (number : ℕ) → Behind → (done : ℕ) → List ℕ
lines_at None names t part ss held number b done = no_stop_line done
lines_at (Some place) names t part ss held number b done = placed_lines (is_ended place.stop) names t part ss held number b place

-- what is told of a run that came to this state, beside blocks with these names
abbrev pub why_lines : List (List ℕ) → Option Sourced → Workpiece → List CodeStatement → Held → (number : ℕ) → Behind → (done : ℕ) → List ℕ
why_lines names t part ss held number b done = lines_at held.state.stop names t part ss held number b done
