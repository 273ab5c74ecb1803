-- The clearance of a probe in a run of a loaded code.
use Rattle.std.specs.Prelude.{◌≡◌, ℕ, true, List, [], ◌∷◌, ◌++◌, length, Option}
use Rattle.std.specs.List.{list_any}
use Rattle.std.specs.Io.KnownBytes.{Appends, Keeps}
use Rattle.vcm_num.specs.Written.{AppendsFront}
use Rattle.vcm_spec.specs.declared.stop.StopPlace.{StopPlace}
use Rattle.vcm_spec.specs.Workpiece.{Workpiece}
use Rattle.vcm_code.specs.declared.code.Code.{Code}
use Rattle.vcm_machine.specs.declared.ran.End.TheVariants.{NoMemory}
use Rattle.vcm_machine.specs.Running.{started, later, RunEnded}
use Rattle.vcm_steps.specs.Passages.{state_after, steps_taken}
use Rattle.vcm_boxes.specs.declared.boxes.ProbeBox.{ProbeBox}
use Rattle.vcm_way.specs.Gone.{PlacedWay, ways_of}
use Rattle.vcm_clearance.specs.declared.clearing.Cleared.{Cleared}
use Rattle.vcm_steps.specs.declared.fault.Unfinished.{Unfinished}
use Rattle.vcm_steps.specs.declared.fault.Unfinished.TheVariants as faults
use Rattle.vcm_clearance.specs.declared.room.Room.{Room}
use Rattle.vcm_clearance.specs.Rooms.{counted, AreRooms, is_met_room}
use Rattle.vcm_naming.specs.Naming.{Line, plain, last_line, named_text}
use Rattle.vcm_backtrace.specs.Sources.{Sourced}
use Rattle.vcm_backtrace.specs.Backtrace.{backtrace_at}
use Rattle.vcm_clearance.specs.Printed.{Backtraces, run_lines, ways_text, boxes_lines}

-- the lines of the contacts in the first so many steps of a code with this source, if it has one
abbrev pub contact_lines : Option Sourced → Workpiece → List ProbeBox → Code → ℕ → List Line
contact_lines s part boxes c k = run_lines (backtrace_at s part c) part.blocks boxes true (ways_of part c k)

-- what comes behind the contacts of a run that did so many steps: how many ways there were, with what is told of those that weren't tried, the rooms, and how it
-- ended
abbrev pub summary : Backtraces → List ℕ → List ProbeBox → Code → List PlacedWay → List Room → Option StopPlace → ℕ → List Line
summary from untried boxes c ways rooms stop done = plain (ways_text untried (counted (length ways))) ∷ boxes_lines from boxes rooms ++ last_line c.tables stop done ∷ []

-- the lines of the clearance of these boxes in a run for at most n steps, their rooms being these
abbrev pub clearance_lines : List ℕ → Option Sourced → Workpiece → List ProbeBox → Code → ℕ → List Room → List Line
clearance_lines untried s part boxes c n rooms =
    contact_lines s part boxes c n ++ summary (backtrace_at s part c) untried boxes c (ways_of part c n) rooms (state_after part c n).world.stop (steps_taken part c n)

-- these lines, beside blocks with these names
abbrev pub clearance_text : List (List ℕ) → List ℕ → Option Sourced → Workpiece → List ProbeBox → Code → ℕ → List Room → List ℕ
clearance_text names untried s part boxes c n rooms = named_text names (clearance_lines untried s part boxes c n rooms)

-- the contacts in the first so many steps, likewise
abbrev pub contacts_front : List (List ℕ) → Option Sourced → Workpiece → List ProbeBox → Code → ℕ → List ℕ
contacts_front names s part boxes c k = named_text names (contact_lines s part boxes c k)

-- it was written: the rooms are those of the boxes, whether one is met is told, and the stop, if the run came to one
pub record IsClearance (names : List (List ℕ)) (untried : List ℕ) (s : Option Sourced) (part : Workpiece) (boxes : List ProbeBox) (c : Code) (n : ℕ) (told : Cleared) (old new : Option (List ℕ)) : Type 0 where
  pub rooms : List Room
  pub are_rooms : AreRooms part.blocks boxes (ways_of part c n) rooms
  pub is_met : told.is_met ≡ list_any is_met_room rooms
  pub stop : told.stop ≡ (state_after part c n).world.stop
  pub written : Appends old new (clearance_text names untried s part boxes c n rooms)

-- memory was refused after so many steps of a run for n, at a statement that makes an output line and would not stop; the contacts in these steps were written
pub record IsHalted (names : List (List ℕ)) (s : Option Sourced) (part : Workpiece) (boxes : List ProbeBox) (c : Code) (n done : ℕ) (old new : Option (List ℕ)) : Type 0 where
  pub halted : RunEnded n (started part c) (later done (started part c)) done NoMemory
  pub written : Appends old new (contacts_front names s part boxes c done)

-- a write failed: a front of the clearance was written, and not all of it
pub record IsCutOff (names : List (List ℕ)) (untried : List ℕ) (s : Option Sourced) (part : Workpiece) (boxes : List ProbeBox) (c : Code) (n : ℕ) (old new : Option (List ℕ)) : Type 0 where
  pub rooms : List Room
  pub are_rooms : AreRooms part.blocks boxes (ways_of part c n) rooms
  pub front : AppendsFront old new (clearance_text names untried s part boxes c n rooms)

-- why no clearance was written: memory was refused before the run, and nothing was written; or in it; or a write failed
abbrev pub IsNotCleared : List (List ℕ) → List ℕ → Option Sourced → Workpiece → List ProbeBox → Code → ℕ → Unfinished → Option (List ℕ) → Option (List ℕ) → Type 0
IsNotCleared names untried s part boxes c n faults.NoMemory old new = Keeps old new
IsNotCleared names untried s part boxes c n (faults.Memory done) old new = IsHalted names s part boxes c n done old new
IsNotCleared names untried s part boxes c n (faults.Write done) old new = IsCutOff names untried s part boxes c n old new
