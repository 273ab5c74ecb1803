-- Why a text isn't put as a program.
use Rattle.std.proofs.Common.{◌≡◌, ◌<◌, ℕ, false, List, length, Some, None, Result, Ok, Err, IfErr, inl, inr, refl, sym}
use Rattle.std.specs.Prelude.{slice_get}
use Rattle.vcm_lines.specs.declared.fault.FaultCode.TheVariants.{TooLong, BadOrder}
use Rattle.vcm_lines.specs.declared.fault.SourceFault.{SourceFault}
use Rattle.vcm_lines.specs.declared.logical.Logical.{Logical}
use Rattle.vcm_lines.specs.Fault.{NoMemoryOr}
use Rattle.vcm_forms.specs.declared.statement.Statement.{Statement}
use Rattle.vcm_macro.specs.declared.placed.Placed.{Placed}
use Rattle.vcm_macro.specs.Expansion.{IsExpanded, IsRefused as IsUnexpanded}
use Rattle.vcm_tree.specs.Acceptance.{ReadsLines, IsRefusedPlaced}
use Rattle.vcm_tree.specs.Program.{notices_of}
use Rattle.vcm_program.specs.declared.accepted.Noticed.{Noticed}
use Rattle.vcm_run.specs.Programs.{IsRefusalPlaced}
use Rattle.vcm_run.specs.declared.run.Refusal.{Refusal}
use Rattle.vcm_run.specs.declared.run.Refusal.TheVariants.{Source, Part, NoMemory}
use Rattle.vcm_said.specs.All.{refused_from}
use Rattle.vcm_given.specs.declared.choices.Choices.{Choices}
use Rattle.vcm_plain.specs.declared.unit.Lengths.{Lengths}
use Rattle.vcm_plain.specs.declared.unit.Unit.TheVariants.{Millimetre}
use Rattle.vcm_plain.specs.Plain.{plain}
use Rattle.vcm_plain.specs.Units.{all_in, lengths_of}
use Rattle.vcm_lines.specs.Statements.{lines_of, Breaks, told_line}
use Rattle.vcm_spec.specs.Phase.{FirstFault}
use Rattle.vcm_kept.specs.Guarding.{guarded}
use Rattle.vcm_kept.specs.Put.{placed_in}
use Rattle.vcm_whole.specs.Whole.{ReadsPlain, statements_of, Expands, HasToBeCarried, Carries, is_program, line_beyond, IsWholeRefused, in_lines, in_converted, in_shape, in_expansion, too_long, no_program, in_program, IsWholeRefusal}

pub long_refused : (c : Choices) (text : List ℕ) (u : Lengths) (ls : List Logical) (ps all : List Placed) (f : SourceFault) → all ≡ placed_in (guarded ps) → 20000 < length all
    → f ≡ record { code = TooLong; line = line_beyond (slice_get all 20000) } → Carries c text u ls ps → NoMemoryOr (IsWholeRefused c text) f
long_refused c text u ls ps all f same long is x = inr (too_long u ls ps x (rw same at long) (rw same at is))

pub program_refused : (c : Choices) (text : List ℕ) (u : Lengths) (ls : List Logical) (ps all : List Placed) → all ≡ placed_in (guarded ps) → is_program all ≡ false
    → Carries c text u ls ps → NoMemoryOr (IsWholeRefused c text) (record { code = BadOrder; line = 1 })
program_refused c text u ls ps all same wrong x = inr (no_program u ls ps x (rw same at wrong) refl)

pub placed_refused : (c : Choices) (text : List ℕ) (u : Lengths) (ls : List Logical) (ps all : List Placed) (notices : List Noticed) (r : Refusal) → all ≡ placed_in (guarded ps)
    → ((ss : List Statement) → notices ≡ notices_of ss → IsRefusalPlaced ss all r) → Carries c text u ls ps → notices ≡ notices_of (statements_of c text ls) → IsWholeRefusal c text r
placed_refused c text u ls ps all notices (Source f) same h x told = by (h (statements_of c text ls) told)
  where
    by : NoMemoryOr (IsRefusedPlaced (statements_of c text ls) all) f → NoMemoryOr (IsWholeRefused c text) f
    by (inl e) = inl e
    by (inr p) = inr (in_program u ls ps x (rw same at p))
placed_refused c text u ls ps all notices (Part f) same h x told = h (statements_of c text ls) told
placed_refused c text u ls ps all notices NoMemory same h x told = tt

pub expansion_refused : (c : Choices) (text : List ℕ) (u : Lengths) (ls : List Logical) (ss : List Statement) (f : SourceFault) → ss ≡ statements_of c text ls
    → NoMemoryOr (IsUnexpanded ss) f → ReadsPlain text u ls → NoMemoryOr (IsWholeRefused c text) f
expansion_refused c text u ls ss f same (inl e) read = inl e
expansion_refused c text u ls ss f same (inr p) read = inr (in_expansion u ls read (rw same at p))

pub shape_refused : (c : Choices) (text : List ℕ) (u : Lengths) (ls : List Logical) (f : SourceFault) → Some f ≡ refused_from false ls → ReadsPlain text u ls
    → NoMemoryOr (IsWholeRefused c text) f
shape_refused c text u ls f e read = inr (in_shape u ls read (sym e))

pub lines_refused : (c : Choices) (text : List ℕ) (f : SourceFault) → NoMemoryOr (λ g. FirstFault Breaks told_line (lines_of (plain (all_in Millimetre) text)) g.code g.line) f
    → NoMemoryOr (IsWholeRefused c text) f
lines_refused c text f (inl e) = inl e
lines_refused c text f (inr p) = inr (in_lines p)

pub converted_refused : (c : Choices) (text : List ℕ) (u : Lengths) (ls : List Logical) (f : SourceFault)
    → NoMemoryOr (λ g. FirstFault Breaks told_line (lines_of (plain u text)) g.code g.line) f → ReadsLines (plain (all_in Millimetre) text) ls → u ≡ lengths_of ls
    → NoMemoryOr (IsWholeRefused c text) f
converted_refused c text u ls f (inl e) read same = inl e
converted_refused c text u ls f (inr p) read same = inr (in_converted ls read (rw same at p))

pub put_refused : (c : Choices) (text : List ℕ) (u : Lengths) (ls : List Logical) (ss shown : List Statement) (ps : List Placed) (notices : List Noticed) (r : Refusal)
    → ss ≡ statements_of c text ls → shown ≡ ss → notices ≡ notices_of shown → IsExpanded ss ps → refused_from false ls ≡ None
    → ((v : Lengths) (ms : List Logical) → Expands c text v ms ps → notices ≡ notices_of (statements_of c text ms) → IsWholeRefusal c text r)
    → ReadsPlain text u ls → IsWholeRefusal c text r
put_refused c text u ls ss shown ps notices r same seen told expands shaped h read =
    h u ls (record { read = read; shaped = shaped; is_expanded = rw same at expands }) (rw same at (rw seen at told))

pub carried_refused : (c : Choices) (text : List ℕ) (ps : List Placed) (notices : List Noticed) (r : Refusal) → HasToBeCarried c text ps
    → ((d : Choices) (t : List ℕ) (v : Lengths) (ms : List Logical) → Carries d t v ms ps → notices ≡ notices_of (statements_of d t ms) → IsWholeRefusal d t r)
    → (u : Lengths) (ls : List Logical) → Expands c text u ls ps → notices ≡ notices_of (statements_of c text ls) → IsWholeRefusal c text r
carried_refused c text ps notices r has h u ls expands told = h c text u ls (record { expands = expands; has_to = has }) told

pub carried_refusals : (A : Type 0) (c : Choices) (text : List ℕ) (ps shown : List Placed) (notices : List Noticed) (r : Result A Refusal) → shown ≡ ps → HasToBeCarried c text shown
    → IfErr r (λ x. (d : Choices) (t : List ℕ) (v : Lengths) (ms : List Logical) → Carries d t v ms ps → notices ≡ notices_of (statements_of d t ms) → IsWholeRefusal d t x)
    → IfErr r (λ x. (u : Lengths) (ls : List Logical) → Expands c text u ls ps → notices ≡ notices_of (statements_of c text ls) → IsWholeRefusal c text x)
carried_refusals A c text ps shown notices (Ok p) same has h = h
carried_refusals A c text ps shown notices (Err x) same has h = carried_refused c text ps notices x (rw same at has) h
