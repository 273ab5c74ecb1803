-- Which texts are accepted, as which programs, and which refusal the others get.
use Rattle.std.specs.Prelude.{ℕ, List}
use Rattle.vcm_lines.specs.declared.fault.SourceFault.{SourceFault}
use Rattle.vcm_lines.specs.declared.logical.Logical.{Logical}
use Rattle.vcm_lines.specs.Statements.{lines_of, kept_lines, grouped, AreLogical, Breaks, told_line}
use Rattle.vcm_spec.specs.Phase.{IsClean, FirstFault}
use Rattle.vcm_forms.specs.declared.statement.Statement.{Statement}
use Rattle.vcm_tree.specs.Statements.{AreSpelled, BreaksStatements, statement_line}
use Rattle.vcm_macro.specs.declared.placed.Placed.{Placed}
use Rattle.vcm_macro.specs.Expansion.{IsExpanded, IsRefused as IsUnexpanded}
use Rattle.vcm_tree.specs.Resolving.{BreaksNames, names_line}
use Rattle.vcm_nodes.specs.Jumps.{labels_of, jumps_of, BreaksJumps, jumps_line}
use Rattle.vcm_program.specs.Program.{Parsed}
use Rattle.vcm_tree.specs.Program.{IsParsed}

-- these are the statements of the text before they are read, and no rule of lines is broken
pub record ReadsLines (text : List ℕ) (ls : List Logical) : Type 0 where
  pub clean : IsClean Breaks (lines_of text)
  pub lines : AreLogical (grouped (kept_lines (lines_of text))) ls

-- these are the statements, and no rule of statements is broken
pub record ReadsStatements (ls : List Logical) (ss : List Statement) : Type 0 where
  pub clean : IsClean BreaksStatements ls
  pub statements : AreSpelled ls ss

-- the text reads as these statements, and no rule of lines and of statements is broken
pub record ReadsAs (text : List ℕ) (ss : List Statement) : Type 0 where
  pub lines : List Logical
  pub read : ReadsLines text lines
  pub spelled : ReadsStatements lines ss

-- the expanded statements are this program with these variables, the written ones have these notices, no rule of names and blocks is broken
pub record ReadsProgram (ss : List Statement) (all : List Placed) (p : Parsed) : Type 0 where
  pub clean : IsClean BreaksNames all
  pub is : IsParsed ss all p

-- no rule of order and macros, of names and blocks, and of jumps is broken, and the statements are this program with these tables and notices
pub record IsAcceptedFrom (ss : List Statement) (p : Parsed) : Type 0 where
  pub expanded : List Placed
  pub is_expanded : IsExpanded ss expanded
  pub program : ReadsProgram ss expanded p
  pub jumps : IsClean (BreaksJumps (labels_of p.program)) (jumps_of p.program)

-- no rule of names and blocks, and of jumps is broken, and the expanded statements are this program, with the notices of the written ones
pub record IsAcceptedPlaced (ss : List Statement) (all : List Placed) (p : Parsed) : Type 0 where
  pub program : ReadsProgram ss all p
  pub jumps : IsClean (BreaksJumps (labels_of p.program)) (jumps_of p.program)

-- no rule is broken, and the text is this program with these tables and notices
pub record IsAccepted (text : List ℕ) (p : Parsed) : Type 0 where
  pub statements : List Statement
  pub read : ReadsAs text statements
  pub accepted : IsAcceptedFrom statements p

-- the text doesn't read as statements: its lines have their first fault here, or else its statements
pub data IsUnread (text : List ℕ) (f : SourceFault) : Type 0 where
  in_lines : FirstFault Breaks told_line (lines_of text) f.code f.line → IsUnread text f
  in_statements : (ls : List Logical) → ReadsLines text ls → FirstFault BreaksStatements statement_line ls f.code f.line → IsUnread text f

-- the first phase with a fault has its first fault here: names and blocks of expanded statements, jumps
pub data IsRefusedPlaced (ss : List Statement) (all : List Placed) (f : SourceFault) : Type 0 where
  among_names : FirstFault BreaksNames names_line all f.code f.line → IsRefusedPlaced ss all f
  among_jumps : (p : Parsed) → ReadsProgram ss all p → FirstFault (BreaksJumps (labels_of p.program)) jumps_line (jumps_of p.program) f.code f.line
      → IsRefusedPlaced ss all f

-- the first phase with a fault has its first fault here: order and macros, names and blocks of the expanded program, jumps
pub data IsRefusedFrom (ss : List Statement) (f : SourceFault) : Type 0 where
  in_expansion : IsUnexpanded ss f → IsRefusedFrom ss f
  in_names : (all : List Placed) → IsExpanded ss all → FirstFault BreaksNames names_line all f.code f.line → IsRefusedFrom ss f
  in_jumps : (all : List Placed) (p : Parsed) → IsExpanded ss all → ReadsProgram ss all p
      → FirstFault (BreaksJumps (labels_of p.program)) jumps_line (jumps_of p.program) f.code f.line
      → IsRefusedFrom ss f

-- the text doesn't read as statements, or those that it reads as are refused
pub data IsRefused (text : List ℕ) (f : SourceFault) : Type 0 where
  unread : IsUnread text f → IsRefused text f
  in_program : (ss : List Statement) → ReadsAs text ss → IsRefusedFrom ss f → IsRefused text f
