-- The trace and the measured points of a run with several probes.
use Rattle.std.specs.Prelude.{◌≡◌, ℕ, ◌+◌, List, [], ◌++◌, flat_map, map, slice_get, Bool, Option, Some, None}
use Rattle.vcm_spec.specs.Setup.{Tables}
use Rattle.vcm_spec.specs.World.{World}
use Rattle.vcm_code.specs.Code.{CodeStatement}
use Rattle.vcm_trace.specs.Lines.{line_front, open_line}
use Rattle.vcm_trace.specs.Framed.{no_frames, framed}
use Rattle.vcm_trace.specs.Points.{point_rows}
use Rattle.vcm_trace.specs.Rows.{RunRows}
use Rattle.vcm_trace.specs.Traces.{trace_rows}
use Rattle.vcm_turning.specs.declared.ended.NoProbe.{NoProbe}
use Rattle.vcm_turning.specs.declared.ended.Ended.{Ended}
use Rattle.vcm_turning.specs.declared.ended.Ended.TheVariants.{Count, Stopped, Lost, NoMemory}
use Rattle.vcm_turning.specs.Steps.{TurnedStep}
use Rattle.vcm_backtrace.specs.Sources.{Sourced, IsSourced}
use Rattle.vcm_backtrace.specs.Calls.{calls_field}
use Rattle.vcm_set_views.specs.declared.ends.SetEnd.{SetEnd}
use Rattle.vcm_set_views.specs.Ends.{no_probe_line}
use Rattle.vcm_set_views.specs.Fit.{Fit, steps_of, behind}

-- what stands before the steps, and the rows of these steps
abbrev pub rows_of : RunRows → Tables → List TurnedStep → List ℕ
rows_of t tables ss = t.before ++ flat_map (t.row tables) (framed (no_frames tables) (map (λ s. s.passage) ss))

-- the row of a run that ended without a probe behind so many steps: the number and the line of the statement that would move, no word, and where the probe is
abbrev pub lost_row : NoProbe → (done : ℕ) → World → List ℕ
lost_row l done w = line_front done l.number l.line [] w.position ++ no_probe_line l (done + 1)

-- the row of a run that has not stopped behind so many steps, before this statement
abbrev pub open_row : (done next : ℕ) → World → Option CodeStatement → List ℕ
open_row done next w None = []
open_row done next w (Some s) = open_line done next s.line w

-- the last row of a trace, behind so many steps: at a stop there is none
abbrev pub last_row : Fit → (done : ℕ) → Ended → List ℕ
last_row f done Count = open_row done (behind f done).state.next (behind f done).state.world (slice_get f.code.statements (behind f done).state.next)
last_row f done (Lost l) = lost_row l done (behind f done).state.world
last_row f done Stopped = []
last_row f done NoMemory = []

-- the trace of a run that ended so
abbrev pub trace_of : Fit → SetEnd → List ℕ
trace_of f e = rows_of trace_rows f.code.tables (steps_of f e.done) ++ last_row f e.done e.end

-- the points that it measured, in machine coordinates too where that is wanted, with the CALLs that their statements come from
abbrev pub points_of : (is_machine : Bool) → Option Sourced → Fit → SetEnd → List ℕ
points_of is_machine s f e = rows_of (point_rows is_machine (calls_field s)) f.code.tables (steps_of f e.done)

-- this is they, of a code from this text, or from none
pub record ArePoints (text : Option (List ℕ)) (is_machine : Bool) (f : Fit) (e : SetEnd) (told : List ℕ) : Type 0 where
  pub source : Option Sourced
  pub is_source : IsSourced text source
  pub told_is : told ≡ points_of is_machine source f e
