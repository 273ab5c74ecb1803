-- A text is one program or refused at one line.
use Rattle.std.proofs.Common.{◌≡◌, ℕ, List, [], ◌∷◌, sym, ap, ◌∙◌, subst}
use Rattle.vcm_lines.proofs.OneReading.{one_statements}
use Rattle.vcm_lines.specs.declared.fault.SourceFault.{SourceFault}
use Rattle.vcm_lines.specs.declared.logical.Logical.{Logical}
use Rattle.vcm_lines.specs.Statements.{lines_of, kept_lines, grouped, Breaks, told_line}
use Rattle.vcm_spec.specs.Phase.{FirstFault}
use Rattle.vcm_spec.proofs.PhaseLemmas.{clean_or_fault, one_line}
use Rattle.vcm_forms.specs.declared.statement.Form.{Form}
use Rattle.vcm_forms.specs.declared.statement.Statement.{Statement}
use Rattle.vcm_syntax.proofs.Answering.{statement_once}
use Rattle.vcm_tree.specs.Statements.{IsSpelled, AreSpelled, BreaksStatements, statement_line}
use Rattle.vcm_macro.specs.declared.placed.Placed.{Placed}
use Rattle.vcm_macro.specs.Expansion.{IsExpanded}
use Rattle.vcm_macro.proofs.Answered.{either as no_refusal, refusal as one_refused, expansion as one_expanded}
use Rattle.vcm_tree.specs.Resolving.{BreaksNames, names_line}
use Rattle.vcm_nodes.specs.Jumps.{labels_of, jumps_of, BreaksJumps, jumps_line}
use Rattle.vcm_spec.specs.Setup.{Tables}
use Rattle.vcm_program.specs.Program.{Parsed}
use Rattle.vcm_tree.specs.Program.{IsParsed}
use Rattle.vcm_spec.specs.Program.{Block}
use Rattle.vcm_program.specs.declared.accepted.Noticed.{Noticed}
use Rattle.vcm_tree.proofs.OneProgram.{one_writing}
use Rattle.vcm_tree.specs.Acceptance.{ReadsLines, ReadsAs, ReadsProgram, IsAccepted, IsAcceptedFrom, IsUnread, IsRefused, IsRefusedFrom}
use Rattle.vcm_tree.specs.Acceptance.{in_lines, in_statements, in_expansion, in_names, in_jumps, unread, in_program}

abbrev stated : ℕ → Form → Statement
stated n form = record { line = n; form = form }

-- a line spells one statement
one_statement : (l : Logical) (s t : Statement) → IsSpelled l s → IsSpelled l t → s ≡ t
one_statement l s t p q =
    let line : s.line ≡ t.line = p.line ∙ sym q.line in
    let form : s.form ≡ t.form = statement_once _ s.form t.form p.form q.form in
    ap (λ (n : ℕ). stated n s.form) line ∙ ap (stated t.line) form

-- lines spell one list of statements
one_spelling : (ls : List Logical) (ss ts : List Statement) → AreSpelled ls ss → AreSpelled ls ts → ss ≡ ts
one_spelling [] ss ts p q = p ∙ sym q
one_spelling (l ∷ ls) [] ts p q = absurd p
one_spelling (l ∷ ls) (s ∷ ss) [] p q = absurd q
one_spelling (l ∷ ls) (s ∷ ss) (t ∷ ts) p q = ap (λ x. x ∷ ss) (one_statement l s t p.0 q.0) ∙ ap (λ xs. t ∷ xs) (one_spelling ls ss ts p.1 q.1)

-- a text has one list of statements before they are read
one_reading : (text : List ℕ) (ls ms : List Logical) → ReadsLines text ls → ReadsLines text ms → ls ≡ ms
one_reading text ls ms p q = one_statements (grouped (kept_lines (lines_of text))) ls ms p.lines q.lines

-- and one of those that are read
one_list : (text : List ℕ) (ss ts : List Statement) → ReadsAs text ss → ReadsAs text ts → ss ≡ ts
one_list text ss ts p q =
    one_spelling q.lines ss ts (subst (λ l. AreSpelled l ss) (one_reading text p.lines q.lines p.read q.read) p.spelled.statements) q.spelled.statements

-- ---- statements, wherever they come from

abbrev parsed : Block → Tables → List Noticed → Parsed
parsed b ts ns = record { program = b; tables = ts; notices = ns }

-- statements and what they expand to are one program
pub one_parsed : (ss : List Statement) (all : List Placed) (p q : Parsed) → IsParsed ss all p → IsParsed ss all q → p ≡ q
one_parsed ss all p q a b =
    let program : p.program ≡ q.program = one_writing p.program q.program (a.program ∙ sym b.program) in
    let e : parsed p.program p.tables p.notices ≡ parsed q.program q.tables q.notices =
    ap (λ x. parsed x p.tables p.notices) program ∙ ap (λ x. parsed q.program x p.notices) (a.tables ∙ sym b.tables) ∙ ap (parsed q.program q.tables) (a.notices ∙ sym b.notices) in
    e

-- the same of what they expand to
one_read : (ss : List Statement) (all more : List Placed) (p q : Parsed) → IsExpanded ss all → IsExpanded ss more → ReadsProgram ss all p → ReadsProgram ss more q → p ≡ q
one_read ss all more p q x y a b = one_parsed ss more p q (subst (λ l. IsParsed ss l p) (one_expanded ss all more x y) a.is) b.is

pub one_from : (ss : List Statement) (p q : Parsed) → IsAcceptedFrom ss p → IsAcceptedFrom ss q → p ≡ q
one_from ss p q a b = one_read ss a.expanded b.expanded p q a.is_expanded b.is_expanded a.program b.program

-- statements that expand to some whose names break no rule aren't refused for those
not_names : (ss : List Statement) (all more : List Placed) (p : Parsed) (f : SourceFault) → IsExpanded ss all → ReadsProgram ss all p → IsExpanded ss more
    → FirstFault BreaksNames names_line more f.code f.line
    → ⊥
not_names ss all more p f x program y fault =
    clean_or_fault BreaksNames names_line all f.code f.line program.clean
    (subst (λ l. FirstFault BreaksNames names_line l f.code f.line) (one_expanded ss more all y x) fault)

abbrev JumpsFault : Parsed → SourceFault → Type 0
JumpsFault p f = FirstFault (BreaksJumps (labels_of p.program)) jumps_line (jumps_of p.program) f.code f.line

pub not_refused_from : (ss : List Statement) (p : Parsed) (f : SourceFault) → IsAcceptedFrom ss p → IsRefusedFrom ss f → ⊥
not_refused_from ss p f a (in_expansion fault) = no_refusal ss a.expanded f a.is_expanded fault
not_refused_from ss p f a (in_names all x fault) = not_names ss a.expanded all p f a.is_expanded a.program x fault
not_refused_from ss p f a (in_jumps all q x program fault) =
    clean_or_fault (BreaksJumps (labels_of p.program)) jumps_line (jumps_of p.program) f.code f.line a.jumps
    (subst (λ z. JumpsFault z f) (one_read ss all a.expanded q p x a.is_expanded program a.program) fault)

pub one_refusal_from : (ss : List Statement) (f g : SourceFault) → IsRefusedFrom ss f → IsRefusedFrom ss g → f.line ≡ g.line
one_refusal_from ss f g (in_expansion p) (in_expansion q) = ap (λ (x : SourceFault). x.line) (one_refused ss f g p q)
one_refusal_from ss f g (in_expansion p) (in_names more y q) = absurd (no_refusal ss more f y p)
one_refusal_from ss f g (in_expansion p) (in_jumps more b y program q) = absurd (no_refusal ss more f y p)
one_refusal_from ss f g (in_names all x p) (in_expansion q) = absurd (no_refusal ss all g x q)
one_refusal_from ss f g (in_names all x p) (in_names more y q) =
    one_line BreaksNames names_line more f.code g.code f.line g.line
    (subst (λ l. FirstFault BreaksNames names_line l f.code f.line) (one_expanded ss all more x y) p) q
one_refusal_from ss f g (in_names all x p) (in_jumps more b y program q) = absurd (not_names ss more all b f y program x p)
one_refusal_from ss f g (in_jumps all a x program p) (in_expansion q) = absurd (no_refusal ss all g x q)
one_refusal_from ss f g (in_jumps all a x program p) (in_names more y q) = absurd (not_names ss all more a g x program y q)
one_refusal_from ss f g (in_jumps all a x program p) (in_jumps more b y other q) =
    one_line (BreaksJumps (labels_of b.program)) jumps_line (jumps_of b.program) f.code g.code f.line g.line
    (subst (λ z. JumpsFault z f) (one_read ss all more a b x y program other) p) q

-- ---- texts

pub one_program : (text : List ℕ) (p q : Parsed) → IsAccepted text p → IsAccepted text q → p ≡ q
one_program text p q a b = one_from b.statements p q (subst (λ l. IsAcceptedFrom l p) (one_list text a.statements b.statements a.read b.read) a.accepted) b.accepted

-- a text whose lines break no rule isn't refused for its lines
not_lines : (text : List ℕ) (ls : List Logical) (f : SourceFault) → ReadsLines text ls → FirstFault Breaks told_line (lines_of text) f.code f.line → ⊥
not_lines text ls f read fault = clean_or_fault Breaks told_line (lines_of text) f.code f.line read.clean fault

-- a text that reads as statements isn't unread
not_unread : (text : List ℕ) (ss : List Statement) (f : SourceFault) → ReadsAs text ss → IsUnread text f → ⊥
not_unread text ss f a (in_lines fault) = not_lines text a.lines f a.read fault
not_unread text ss f a (in_statements ms other fault) =
    clean_or_fault BreaksStatements statement_line a.lines f.code f.line a.spelled.clean
    (subst (λ l. FirstFault BreaksStatements statement_line l f.code f.line) (one_reading text ms a.lines other a.read) fault)

one_unread : (text : List ℕ) (f g : SourceFault) → IsUnread text f → IsUnread text g → f.line ≡ g.line
one_unread text f g (in_lines p) (in_lines q) = one_line Breaks told_line (lines_of text) f.code g.code f.line g.line p q
one_unread text f g (in_lines p) (in_statements ms read q) = absurd (not_lines text ms f read p)
one_unread text f g (in_statements ls read p) (in_lines q) = absurd (not_lines text ls g read q)
one_unread text f g (in_statements ls read p) (in_statements ms other q) =
    one_line BreaksStatements statement_line ms f.code g.code f.line g.line
    (subst (λ l. FirstFault BreaksStatements statement_line l f.code f.line) (one_reading text ls ms read other) p) q

pub not_refused : (text : List ℕ) (p : Parsed) (f : SourceFault) → IsAccepted text p → IsRefused text f → ⊥
not_refused text p f a (unread fault) = not_unread text a.statements f a.read fault
not_refused text p f a (in_program ss read fault) =
    not_refused_from a.statements p f a.accepted (subst (λ l. IsRefusedFrom l f) (one_list text ss a.statements read a.read) fault)

pub one_refusal : (text : List ℕ) (f g : SourceFault) → IsRefused text f → IsRefused text g → f.line ≡ g.line
one_refusal text f g (unread p) (unread q) = one_unread text f g p q
one_refusal text f g (unread p) (in_program ts read q) = absurd (not_unread text ts f read p)
one_refusal text f g (in_program ss read p) (unread q) = absurd (not_unread text ss g read q)
one_refusal text f g (in_program ss read p) (in_program ts other q) =
    one_refusal_from ts f g (subst (λ l. IsRefusedFrom l f) (one_list text ss ts read other) p) q
