-- What the run of a program's text gives.
use Rattle.std.specs.Prelude.{◌≡◌, ℕ, ◌<◌, List}
use Rattle.vcm_lines.specs.Fault.{NoMemoryOr}
use Rattle.vcm_spec.specs.Workpiece.{Workpiece}
use Rattle.vcm_spec.specs.Program.{sizes}
use Rattle.vcm_state.specs.Carried.{setup_of}
use Rattle.vcm_forms.specs.declared.statement.Statement.{Statement}
use Rattle.vcm_macro.specs.declared.placed.Placed.{Placed}
use Rattle.vcm_tree.specs.Acceptance.{IsAcceptedPlaced, IsRefusedPlaced, IsAcceptedFrom, IsRefusedFrom, IsAccepted, IsRefused}
use Rattle.vcm_program.specs.Program.{Parsed}
use Rattle.vcm_run.specs.declared.run.Refusal.{Refusal}
use Rattle.vcm_run.specs.declared.run.Refusal.TheVariants.{Source, Part, NoMemory}
use Rattle.vcm_run.specs.Run.{IsRun}
use Rattle.vcm_run.specs.Summaries.{Shown}

-- the text is accepted as this program, whose tables and notices the summary shows, and this is a run of it for n steps
pub record IsSummary (part : Workpiece) (text : List ℕ) (n : ℕ) (s : Shown) : Type 0 where
  pub parsed : Parsed
  pub accepted : IsAccepted text parsed
  pub tables_are : s.held.tables ≡ parsed.tables
  pub notices : s.notices ≡ parsed.notices
  pub run : IsRun (setup_of part parsed.tables) parsed.program n s.held.state s.next s.ran

-- the next statement is one of those of the program that the text is
abbrev pub NextIsThere : List ℕ → Shown → Type 0
NextIsThere text s = (p : Parsed) → IsAccepted text p → s.next < sizes p.program

-- what is told of a text that isn't run: of one that is refused its refusal; at line 0 want of memory; want of memory elsewhere, of an
-- accepted text alone
abbrev pub IsRefusal : List ℕ → Refusal → Type 0
IsRefusal text (Source f) = NoMemoryOr (IsRefused text) f
IsRefusal text (Part f) = ⊥
IsRefusal text NoMemory = (p : Parsed) × IsAccepted text p

-- so it is told of statements that aren't built
abbrev pub IsRefusalFrom : List Statement → Refusal → Type 0
IsRefusalFrom ss (Source f) = NoMemoryOr (IsRefusedFrom ss) f
IsRefusalFrom ss (Part f) = ⊥
IsRefusalFrom ss NoMemory = (p : Parsed) × IsAcceptedFrom ss p

-- and of expanded statements
abbrev pub IsRefusalPlaced : List Statement → List Placed → Refusal → Type 0
IsRefusalPlaced ss all (Source f) = NoMemoryOr (IsRefusedPlaced ss all) f
IsRefusalPlaced ss all (Part f) = ⊥
IsRefusalPlaced ss all NoMemory = (p : Parsed) × IsAcceptedPlaced ss all p
