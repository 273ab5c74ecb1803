-- Statements about acceptance. Each is the contract of a law in src/laws.rt.
use Rattle.std.specs.Prelude.{◌≡◌, ℕ, IsTrue, List, length}
use Rattle.vcm_tree.specs.Ended.{is_ended}
use Rattle.std.specs.List.{filter}
use Rattle.vcm_lines.specs.declared.fault.SourceFault.{SourceFault}
use Rattle.vcm_spec.specs.Phase.{IsClean}
use Rattle.vcm_spec.specs.Program.{sizes}
use Rattle.vcm_spec.specs.Whole.{AlwaysSteps}
use Rattle.vcm_forms.specs.declared.statement.Statement.{Statement}
use Rattle.vcm_forms.specs.Statements.{is_counted}
use Rattle.vcm_macro.specs.declared.placed.Placed.{Placed}
use Rattle.vcm_tree.specs.Resolving.{BreaksNames}
use Rattle.vcm_program.specs.Program.{Parsed, IsWhole}
use Rattle.vcm_tree.specs.Program.{IsParsed}
use Rattle.vcm_tree.specs.Acceptance.{IsAccepted, IsAcceptedFrom, IsRefused, IsRefusedFrom}

-- a text that is accepted isn't refused
abbrev pub AcceptedIsNotRefused : Type 0
AcceptedIsNotRefused = (text : List ℕ) (p : Parsed) (f : SourceFault) → IsAccepted text p → IsRefused text f → ⊥

-- so it is with statements, wherever they come from
abbrev pub AcceptedFromIsNotRefused : Type 0
AcceptedFromIsNotRefused = (ss : List Statement) (p : Parsed) (f : SourceFault) → IsAcceptedFrom ss p → IsRefusedFrom ss f → ⊥

-- statements that are accepted are one program
abbrev pub StatementsAreOneProgram : Type 0
StatementsAreOneProgram = (ss : List Statement) (p q : Parsed) → IsAcceptedFrom ss p → IsAcceptedFrom ss q → p ≡ q

-- all refusals of statements are told at one line
abbrev pub StatementsAreRefusedAtOneLine : Type 0
StatementsAreRefusedAtOneLine = (ss : List Statement) (f g : SourceFault) → IsRefusedFrom ss f → IsRefusedFrom ss g → f.line ≡ g.line

-- an accepted text is one program, with one table of each kind of names and one list of notices
abbrev pub IsOneProgram : Type 0
IsOneProgram = (text : List ℕ) (p q : Parsed) → IsAccepted text p → IsAccepted text q → p ≡ q

-- all refusals of a text are told at one line
abbrev pub IsRefusedAtOneLine : Type 0
IsRefusedAtOneLine = (text : List ℕ) (f g : SourceFault) → IsRefused text f → IsRefused text g → f.line ≡ g.line

-- an accepted program is whole
abbrev pub AcceptedIsWhole : Type 0
AcceptedIsWhole = (text : List ℕ) (p : Parsed) → IsAccepted text p → IsWhole p.program p.tables

-- expanded statements that break no rule of names have as many counted ones as their program has statements
abbrev pub CountsStatements : Type 0
CountsStatements = (ss : List Statement) (all : List Placed) (p : Parsed) → IsClean BreaksNames all → IsParsed ss all p
    → sizes p.program ≡ length (filter (λ s. is_counted s.statement.form) all)

-- expanded statements of which ENDFIL is the last one, and that break no rule of names and blocks, are a program
abbrev pub CleanIsProgram : Type 0
CleanIsProgram =
    (ss : List Statement) (all : List Placed) → IsTrue (is_ended all) → IsClean BreaksNames all → (p : Parsed) × IsParsed ss all p

-- an accepted program always has a next step until it stops: its last statement is ENDFIL, and each jump has its label around it
abbrev pub AcceptedAlwaysSteps : Type 0
AcceptedAlwaysSteps = (text : List ℕ) (p : Parsed) → IsAccepted text p → AlwaysSteps p.program
