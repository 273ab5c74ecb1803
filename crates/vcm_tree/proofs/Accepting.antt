-- From the phases to acceptance.
use Rattle.std.proofs.Common.{◌≡◌, ℕ, ◌≤◌, length, List, inl, inr}
use Rattle.std.specs.Prelude.{IsTrue}
use Rattle.vcm_lines.specs.declared.fault.SourceFault.{SourceFault}
use Rattle.vcm_lines.specs.declared.logical.Logical.{Logical}
use Rattle.vcm_lines.specs.Fault.{NoMemoryOr}
use Rattle.vcm_spec.specs.Phase.{IsClean, FirstFault}
use Rattle.vcm_forms.specs.declared.statement.Statement.{Statement}
use Rattle.vcm_macro.specs.declared.placed.Placed.{Placed}
use Rattle.vcm_macro.specs.Expansion.{IsExpanded, IsRefused as IsUnexpanded}
use Rattle.vcm_tree.specs.Statements.{BreaksStatements, statement_line}
use Rattle.vcm_tree.specs.Resolving.{start, BreaksNames, names_line}
use Rattle.vcm_nodes.specs.Jumps.{labels_of, jumps_of, BreaksJumps, jumps_line}
use Rattle.vcm_program.specs.Program.{Parsed, IsWhole}
use Rattle.vcm_program.specs.declared.accepted.Noticed.{Noticed}
use Rattle.vcm_tree.specs.Program.{notices_of}
use Rattle.vcm_tree.specs.Acceptance.{ReadsLines, ReadsAs, ReadsProgram, IsAccepted, IsUnread, IsRefused, IsRefusedFrom, in_statements, in_expansion, in_names, in_jumps, unread, in_program, IsRefusedPlaced, among_names, among_jumps}
use Rattle.vcm_tree.specs.Declaring.{DeclareVariables, PlacedDeclareVariables}
use Rattle.vcm_tree.specs.Ended.{is_ended}
use Rattle.vcm_tree.proofs.Kept.{ended_all, lettered_all}
use Rattle.vcm_tree.proofs.FewKept.{few_all}
use Rattle.vcm_tree.proofs.NamedVariables.{all_spelled, all_behind_named}
use Rattle.vcm_tree.proofs.Wholeness.{parsed_whole}

pub statements_unread : (text : List ℕ) (ls : List Logical) (f : SourceFault) → ReadsLines text ls
    → NoMemoryOr (λ f. FirstFault BreaksStatements statement_line ls f.code f.line) f
    → NoMemoryOr (IsUnread text) f
statements_unread text ls f read (inl e) = inl e
statements_unread text ls f read (inr p) = inr (in_statements ls read p)

pub expansion_refused : (ss : List Statement) (f : SourceFault) → NoMemoryOr (IsUnexpanded ss) f → NoMemoryOr (IsRefusedFrom ss) f
expansion_refused ss f (inl e) = inl e
expansion_refused ss f (inr p) = inr (in_expansion p)

from_placed : (ss : List Statement) (all : List Placed) (f : SourceFault) → IsExpanded ss all → IsRefusedPlaced ss all f → IsRefusedFrom ss f
from_placed ss all f x (among_names p) = in_names all x p
from_placed ss all f x (among_jumps p program q) = in_jumps all p x program q

-- what is refused of expanded statements is refused of those that they are expanded from
pub placed_refused : (ss : List Statement) (notices : List Noticed) (all : List Placed) (f : SourceFault) → notices ≡ notices_of ss → IsExpanded ss all
    → NoMemoryOr (λ f. (ts : List Statement) → notices ≡ notices_of ts → IsRefusedPlaced ts all f) f → NoMemoryOr (IsRefusedFrom ss) f
placed_refused ss notices all f same x (inl e) = inl e
placed_refused ss notices all f same x (inr p) = inr (from_placed ss all f x (p ss same))

-- a refusal of expanded statements, whichever written ones have these notices
abbrev pub RefusedFor : List Noticed → List Placed → SourceFault → Type 0
RefusedFor notices all f = (ss : List Statement) → notices ≡ notices_of ss → IsRefusedPlaced ss all f

pub names_refused : (notices : List Noticed) (all : List Placed) (f : SourceFault)
    → NoMemoryOr (λ f. FirstFault BreaksNames names_line all f.code f.line) f
    → NoMemoryOr (RefusedFor notices all) f
names_refused notices all f (inl e) = inl e
names_refused notices all f (inr p) = inr (λ ss same. among_names p)

pub jumps_refused_all : (notices : List Noticed) (all : List Placed) (p : Parsed) (f : SourceFault)
    → ((ss : List Statement) → notices ≡ notices_of ss → ReadsProgram ss all p)
    → NoMemoryOr (λ f. FirstFault (BreaksJumps (labels_of p.program)) jumps_line (jumps_of p.program) f.code f.line) f
    → NoMemoryOr (RefusedFor notices all) f
jumps_refused_all notices all p f program (inl e) = inl e
jumps_refused_all notices all p f program (inr q) = inr (λ ss same. among_jumps p (program ss same) q)

pub text_unread : (text : List ℕ) (f : SourceFault) → NoMemoryOr (IsUnread text) f → NoMemoryOr (IsRefused text) f
text_unread text f (inl e) = inl e
text_unread text f (inr p) = inr (unread p)

pub text_refused : (text : List ℕ) (ss : List Statement) (f : SourceFault) → ReadsAs text ss → NoMemoryOr (IsRefusedFrom ss) f → NoMemoryOr (IsRefused text) f
text_refused text ss f read (inl e) = inl e
text_refused text ss f read (inr p) = inr (in_program ss read p)

-- what a text reads as declares names that variables may have
pub names_read : (text : List ℕ) (ss : List Statement) → ReadsAs text ss → DeclareVariables ss
names_read text ss read = all_spelled read.lines ss read.spelled.statements

-- a program that expanded statements are is whole
pub placed_whole : (ss : List Statement) (all : List Placed) (p : Parsed) → PlacedDeclareVariables all → IsTrue (is_ended all) → length all ≤ 20000 → ReadsProgram ss all p
    → IsClean (BreaksJumps (labels_of p.program)) (jumps_of p.program)
    → IsWhole p.program p.tables
placed_whole ss all p lettered ended few program jumps =
    parsed_whole ss all p ended few program.clean program.is (all_behind_named start all lettered tt) jumps

-- and one that statements are
pub read_whole : (ss : List Statement) (all : List Placed) (p : Parsed) → DeclareVariables ss → IsExpanded ss all → ReadsProgram ss all p
    → IsClean (BreaksJumps (labels_of p.program)) (jumps_of p.program)
    → IsWhole p.program p.tables
read_whole ss all p lettered x program jumps =
    placed_whole ss all p (lettered_all ss all x lettered) (ended_all ss all x) (few_all ss all x) program jumps

pub accepted_whole : (text : List ℕ) (p : Parsed) → IsAccepted text p → IsWhole p.program p.tables
accepted_whole text p a =
    let from = a.accepted in
    read_whole a.statements from.expanded p (names_read text a.statements a.read) from.is_expanded from.program from.jumps
