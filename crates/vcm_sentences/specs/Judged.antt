-- What the readers of lines and of statements say of the lines of one statement.
use Rattle.std.specs.Prelude.{◌≡◌, ℕ, ◌+◌, ◌-◌, min, List, [], ◌∷◌, Option, Some, None, Ok, Err}
use Rattle.vcm_lines.specs.declared.fault.FaultCode.TheVariants.{NoMemory}
use Rattle.vcm_lines.specs.declared.fault.SourceFault.{SourceFault}
use Rattle.vcm_lines.specs.declared.logical.Logical.{Logical}
use Rattle.vcm_lines.specs.Lexemes.{lexemes}
use Rattle.vcm_lines.specs.Statements.{lines_of, kept_lines, grouped, AreLogical}
use Rattle.vcm_lines.specs.Leftmost.{first_fault}
use Rattle.vcm_forms.specs.declared.statement.Form.{Form}
use Rattle.vcm_syntax.specs.Statements.{statement_of}

-- these are the statements of the lines, and no rule of lines is broken
pub record ReadsLines (text : List ℕ) (ls : List Logical) : Type 0 where
  pub clean : first_fault (lines_of text) ≡ None
  pub lines : AreLogical (grouped (kept_lines (lines_of text))) ls

-- the first statement is one of the language; where there is none, nothing is said
abbrev pub BeginsSpelled : List Logical → Type 0
BeginsSpelled [] = Unit {0}
BeginsSpelled (l ∷ ls) = (form : Form) × (statement_of (lexemes l.text l.words) ≡ Ok form)

-- the readers take the lines
pub record IsTaken (text : List ℕ) : Type 0 where
  pub statements : List Logical
  pub read : ReadsLines text statements
  pub spelled : BeginsSpelled statements

-- the first statement is none of the language, and this fault, at its line, says why
abbrev pub BeginsFaulty : List Logical → SourceFault → Type 0
BeginsFaulty [] f = ⊥
BeginsFaulty (l ∷ ls) f = (f.line ≡ l.line) × (statement_of (lexemes l.text l.words) ≡ Err f.code)

-- the readers refuse the lines with this fault: the first of the lines, or else that of the first statement
pub data IsFaulty (text : List ℕ) (f : SourceFault) : Type 0 where
  in_lines : first_fault (lines_of text) ≡ Some f → IsFaulty text f
  in_statement : (ls : List Logical) → ReadsLines text ls → BeginsFaulty ls f → IsFaulty text f

-- a fault of lines as it is told, the first of the lines having this number: at its line in the text; none is above 4,294,967,295
abbrev pub told_from : ℕ → SourceFault → SourceFault
told_from first g = record { code = g.code; line = min (g.line + first) 4294967295 - 1 }

-- what is found of lines, the first of which has this number: nothing where the readers take them, else the fault that they tell
abbrev pub IsJudged : ℕ → List ℕ → Option SourceFault → Type 0
IsJudged first text None = IsTaken text
IsJudged first text (Some f) = (g : SourceFault) × IsFaulty text g × (f ≡ told_from first g)

-- a fault is told so, and is no want of memory
abbrev pub Tells : ℕ → SourceFault → Option SourceFault → Type 0
Tells first g None = ⊥
Tells first g (Some f) = (f ≡ told_from first g) × (g.code ≡ NoMemory → ⊥)
