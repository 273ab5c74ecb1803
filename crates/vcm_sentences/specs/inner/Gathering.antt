-- What the code keeps while it reads lines.
use Rattle.std.specs.Prelude.{◌≡◌, ℕ, Bool, true, false, List, [], ◌∷◌, ◌++◌, map, if◌then◌else◌}
use Rattle.std.specs.List.{onto_first, take_while}
use Rattle.std.specs.Option.{is_some}
use Rattle.vcm_lines.specs.Bytes.{is_blank}
use Rattle.vcm_lines.specs.Segments.{continues}
use Rattle.vcm_lines.specs.Statements.{lines_of, is_empty}
use Rattle.vcm_lines.specs.Leftmost.{first_fault}
use Rattle.vcm_sentences.specs.declared.sentences.Owner.{Owner}
use Rattle.vcm_sentences.specs.declared.sentences.Sentence.{Sentence}
use Rattle.vcm_sentences.specs.declared.gathering.Begun.{Begun}
use Rattle.vcm_sentences.specs.declared.gathering.LineKind.{LineKind}
use Rattle.vcm_sentences.specs.declared.gathering.LineKind.TheVariants.{Alone, Between, GoesOn, Ends}
use Rattle.vcm_sentences.specs.Stretches.{TextLine, stretches, raw_of, bytes_in, number_of, indent_of, begins_statement, told, spoken, owners_from}

-- what a line is of which nothing is left, or that goes on or not, outside of statements or within one
abbrev pub kind : Bool → Bool → Bool → LineKind
kind empty goes within = if empty then (if within then Between else Alone) else if goes then GoesOn else Ends

-- what a line is to the statement that was begun
abbrev pub kind_of : Bool → TextLine → LineKind
kind_of within l = kind (is_empty l.text) (continues l.text) within

-- the lines of the statement with one more, if that isn't alone
abbrev pub with_line : LineKind → List TextLine → TextLine → List TextLine
with_line Alone ls l = ls
with_line Between ls l = ls ++ l ∷ []
with_line GoesOn ls l = ls ++ l ∷ []
with_line Ends ls l = ls ++ l ∷ []

-- the sentence of a line with this number of which nothing is left, and which breaks a rule
pub record IsAlone (n : ℕ) (raw : List ℕ) (s : Sentence) : Type 0 where
  pub faulty : is_some (first_fault (lines_of raw)) ≡ true
  pub said : spoken s ≡ record { line = n; lines = raw; indent = take_while is_blank raw; bytes = [] }

-- these lines are kept
pub record Holds (b : Begun) (ls : List TextLine) : Type 0 where
  pub line : b.line ≡ number_of ls
  pub lines : b.lines.items ≡ raw_of ls
  pub indent : b.indent.items ≡ indent_of ls
  pub bytes : b.bytes.items ≡ bytes_in ls

-- lines that go on, in front of stretches
abbrev pub put_all_before : List TextLine → List (List TextLine) → List (List TextLine)
put_all_before [] ss = ss
put_all_before (l ∷ ls) ss = onto_first l (put_all_before ls ss)

-- whether there are lines
abbrev pub has_lines : List TextLine → Bool
has_lines [] = false
has_lines (l ∷ ls) = true

-- of all lines those in front of these are read
pub record AreRead (all : List TextLine) (b : Begun) (is_open : Bool) (items : List Sentence) (owners : List Owner) (ahead : List TextLine) : Type 0 where
  pub begun : List TextLine
  pub holds : Holds b begun
  pub some : has_lines begun ≡ is_open
  pub kept : begins_statement begun ≡ is_open
  pub sentences : told (stretches false all) ≡ map spoken items ++ told (put_all_before begun (stretches is_open ahead))
  pub owned : owners_from false all ≡ owners ++ owners_from is_open ahead
