-- The trace of a run of a loaded code.
use Rattle.std.specs.Prelude.{ℕ, List, Option}
use Rattle.vcm_spec.specs.declared.stop.StopPlace.{StopPlace}
use Rattle.vcm_spec.specs.Workpiece.{Workpiece}
use Rattle.vcm_spec.specs.Setup.{Tables}
use Rattle.vcm_code.specs.declared.code.Code.{Code}
use Rattle.vcm_code.specs.CodeTable.{CodeState}
use Rattle.vcm_code.specs.Code.{CodeStatement}
use Rattle.vcm_steps.specs.Passages.{Passage}
use Rattle.vcm_trace.specs.Lines.{heading, step_line, open_line}
use Rattle.vcm_trace.specs.Rows.{RunRows, rows_front, open_row, last_row, rows_text}

-- the line of a step
abbrev pub trace_line : Tables → Passage → List ℕ
trace_line tables p = step_line tables p.count p.number p.statement p.after p.next

-- a header, the line of each step that is taken, and one more where it has not stopped
abbrev pub trace_rows : RunRows
trace_rows = record { before = heading; row = λ tables s. trace_line tables s.passage; after = open_line }

-- the line of a state in which it has not stopped, after so many steps, before this statement
abbrev pub open_at : ℕ → CodeState → Option CodeStatement → List ℕ
open_at = open_row trace_rows

-- one more line after so many steps, if it has not stopped
abbrev pub last_line : Code → ℕ → CodeState → Option StopPlace → List ℕ
last_line = last_row trace_rows

-- the header, and the lines of the first so many steps
abbrev pub trace_front : Workpiece → Code → ℕ → List ℕ
trace_front = rows_front trace_rows

-- the trace of a run for at most n steps
abbrev pub trace_text : Workpiece → Code → ℕ → List ℕ
trace_text = rows_text trace_rows
