-- The text of a program, and its statements.
use Rattle.std.specs.Prelude.{◌≡◌, ℕ, List, [], ◌∷◌, Option, Some, None, Ok}
use Rattle.vcm_lines.specs.Lexemes.{lexemes}
use Rattle.vcm_lines.specs.declared.logical.Logical.{Logical}
use Rattle.vcm_lines.specs.Statements.{lines_of, kept_lines, grouped, AreLogical}
use Rattle.vcm_forms.specs.declared.statement.Statement.{Statement}
use Rattle.vcm_syntax.specs.Statements.{statement_of}

-- the statement is what the words of the line spell
pub record IsReadAs (l : Logical) (s : Statement) : Type 0 where
  pub line : s.line ≡ l.line
  pub form : statement_of (lexemes l.text l.words) ≡ Ok s.form

-- so for each of the lines
abbrev pub AreReadAs : List Logical → List Statement → Type 0
AreReadAs [] ss = ss ≡ []
AreReadAs (l ∷ ls) [] = ⊥
AreReadAs (l ∷ ls) (s ∷ ss) = IsReadAs l s × AreReadAs ls ss

-- a text, and its statements
pub record Sourced : Type 0 where
  pub text : List ℕ
  pub statements : List Statement

-- these are the statements of the text
pub record IsSource (text : List ℕ) (s : Sourced) : Type 0 where
  pub same : s.text ≡ text
  pub lines : List Logical
  pub logical : AreLogical (grouped (kept_lines (lines_of text))) lines
  pub read : AreReadAs lines s.statements

-- the source of a code from this text, or from none
abbrev pub IsSourced : Option (List ℕ) → Option Sourced → Type 0
IsSourced (Some text) (Some s) = IsSource text s
IsSourced (Some text) None = ⊥
IsSourced None (Some s) = ⊥
IsSourced None None = Unit {0}
