-- Steps of readers, each as a private function takes it.
use Rattle.std.specs.Prelude.{ℕ, if◌then◌else◌, List, drop, Option, Result, Ok, Err}
use Rattle.vcm_lines.specs.declared.fault.FaultCode.{FaultCode}
use Rattle.vcm_lines.specs.declared.fault.FaultCode.TheVariants.{BadSyntax}
use Rattle.vcm_lines.specs.Lexemes.{Lexeme}
use Rattle.vcm_spec.specs.Results.{◌>>=◌}
use Rattle.vcm_items.specs.NameBytes.{is_name}
use Rattle.vcm_syntax.specs.declared.heads.Prefix.{Prefix}
use Rattle.vcm_forms.specs.declared.statement.Notice.{Notice}
use Rattle.vcm_forms.specs.declared.statement.Form.{Form}
use Rattle.vcm_forms.specs.declared.statement.Form.TheVariants.{Ignored, Feature}
use Rattle.vcm_lines.specs.Fault.{or_fault}
use Rattle.vcm_syntax.specs.Readers.{end_of, alone, field, some_field}
use Rattle.vcm_syntax.specs.Majors.{major_of}
use Rattle.vcm_syntax.specs.Places.{spot_of}
use Rattle.vcm_syntax.specs.Figures.{vector_of}
use Rattle.vcm_syntax.specs.Forms.{form_of}
use Rattle.vcm_syntax.specs.Statements.{fields_behind}

-- this, with no field behind it
abbrev pub complete : {A : Type 0} → A → List (List Lexeme) → Result A FaultCode
complete a fs = do
  _ ← end_of fs
  Ok a

-- what words stand for, with no word behind them; the code is that of words that stand for nothing
abbrev pub found_of : {A : Type 0} → FaultCode → Option A → List Lexeme → Result A FaultCode
found_of other a ws = do
  x ← or_fault other a
  alone x ws

-- what is read in the field at a place
abbrev pub at_place : {A : Type 0} → (List Lexeme → Result A FaultCode) → List (List Lexeme) → ℕ → Result A FaultCode
at_place read fs k = field fs k >>= read

-- a label
abbrev pub label_of : List ℕ → Result (List ℕ) FaultCode
label_of l = if is_name l then Ok l else Err BadSyntax

-- the place of a feature and the direction there, behind the first two fields
abbrev pub feature_of : List ℕ → List (List Lexeme) → Result Form FaultCode
feature_of l fs = do
  s ← spot_of (drop 2 fs)
  d ← vector_of (drop 5 fs)
  _ ← end_of (drop 8 fs)
  Ok (Feature l s d)

-- the fields of a word without effect
abbrev pub ignored_of : Notice → List (List Lexeme) → Result Form FaultCode
ignored_of n fs = do
  _ ← some_field fs
  Ok (Ignored n)

-- a major word and its fields, behind what stands before it
abbrev pub prefixed_of : Prefix → List Lexeme → Result Form FaultCode
prefixed_of p ws = do
  m ← major_of ws
  fs ← fields_behind m.1
  form_of m.0 p fs
