-- Jobs: a part text and a program text in one input.
use Rattle.std.specs.Prelude.{◌≡◌, ℕ, Bool, List, [], ◌∷◌, ◌++◌, if◌then◌else◌, ◌||◌, codes, Option, Some, None, Ok}
use Rattle.std.specs.List.{flat_map}
use Rattle.std.specs.Str.{bytes_eq}
use Rattle.vcm_num.specs.Lines.{whole_lines}
use Rattle.vcm_part.specs.PartFile.{part_of}
use Rattle.vcm_spec.specs.declared.stop.Stop.TheVariants.{Ended}
use Rattle.vcm_spec.specs.declared.stop.StopPlace.{StopPlace}
use Rattle.vcm_spec.specs.Workpiece.{Workpiece}
use Rattle.vcm_spec.specs.Setup.{Setup}
use Rattle.vcm_spec.specs.Table.{State, steps, effective, opening}
use Rattle.vcm_state.specs.Held.{Held}
use Rattle.vcm_state.specs.Carried.{setup_of}
use Rattle.vcm_program.specs.Program.{Parsed}
use Rattle.vcm_tree.specs.Acceptance.{IsAccepted}
use Rattle.vcm_run.specs.Printed.{result_text}

-- whether a line is exactly two per cent signs, ended by a line feed, by a carriage return and a line feed, or by the input's end
abbrev pub is_mark : List ℕ → Bool
is_mark line = bytes_eq line (codes "%%") || (bytes_eq line (codes "%%\n") || bytes_eq line (codes "%%\r\n"))

-- the part text: the lines before the first mark
abbrev pub before_mark : List (List ℕ) → List ℕ
before_mark [] = []
before_mark (l ∷ ls) = if is_mark l then [] else l ++ before_mark ls

-- the program text: the lines behind the first mark
abbrev pub behind_mark : List (List ℕ) → List ℕ
behind_mark [] = []
behind_mark (l ∷ ls) = if is_mark l then flat_map (λ k. k) ls else behind_mark ls

-- the part text of an input: what stands before its first mark
abbrev pub part_text : List ℕ → List ℕ
part_text input = before_mark (whole_lines input)

-- the program text of an input: what stands behind its first mark
abbrev pub program_text : List ℕ → List ℕ
program_text input = behind_mark (whole_lines input)

-- the exit status that a stop gives: 0 at the program's end, 3 at another stop, 4 where there is none
abbrev pub status_of : Option StopPlace → ℕ
status_of None = 4
status_of (Some p) = elim p.stop [ Ended ↦ 0 | _ ↦ 3 ]

-- the most steps of a job
unfoldable pub most_steps : ℕ
most_steps = 1000000

-- what a program is carried out on
abbrev pub job_setup : Workpiece → Parsed → Setup
job_setup part p = setup_of part p.tables

-- a program's state beside a workpiece at the start
abbrev pub start_of : Workpiece → Parsed → State
start_of part p = opening (job_setup part p) p.program

-- and after the steps of a job
abbrev pub last_state : Workpiece → Parsed → State
last_state part p = steps (job_setup part p) most_steps (start_of part p)

-- a state with the tables of its program
abbrev pub held : Parsed → State → Held
held p s = record { tables = p.tables; state = s.world }

-- how many of these steps are taken at a state without a stop
abbrev pub job_count : Workpiece → Parsed → ℕ
job_count part p = effective (job_setup part p) most_steps (start_of part p)

-- the standard output of a job: that of its program after so many steps
abbrev pub job_text : Workpiece → Parsed → List ℕ
job_text part p = result_text (held p (last_state part p)) (job_count part p)

-- the part text gives this workpiece, and the program text is accepted as this program
pub record IsJob (input : List ℕ) (part : Workpiece) (p : Parsed) : Type 0 where
  pub part_is : part_of (part_text input) ≡ Ok part
  pub accepted : IsAccepted (program_text input) p
