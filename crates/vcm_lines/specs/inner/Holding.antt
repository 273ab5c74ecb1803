-- What the code keeps of a statement that isn't finished.
use Rattle.std.specs.Prelude.{◌≡◌, ℕ, ◌-◌, List, [], ◌∷◌, ◌++◌, length, take, replicate, Option, Some, None}
use Rattle.vcm_lines.specs.Statements.{KeptLine, bytes_of, byte_lines, last_line}
use Rattle.vcm_lines.specs.declared.lines.Unfinished.{Unfinished}

-- the first line and the last one of these kept lines, if there is a kept line
abbrev pub span_of : List KeptLine → Option (ℕ × ℕ)
span_of [] = None
span_of (r ∷ rs) = Some (r.line, last_line (r ∷ rs))

-- the lines of a statement's bytes that the code keeps: none as long as the statement has one kept line
abbrev pub marks_of : List KeptLine → List ℕ
marks_of [] = []
marks_of (r ∷ []) = []
marks_of (r ∷ s ∷ rs) = byte_lines (r ∷ s ∷ rs)

-- the line of each of n bytes: as it is kept, and this one where none is kept
abbrev pub line_of_each : List ℕ → ℕ → ℕ → List ℕ
line_of_each ls line n = ls ++ replicate (n - length ls) line

-- what resizing gives: the first n elements, and so many more as are missing
abbrev pub resized : List ℕ → ℕ → ℕ → List ℕ
resized ls n line = take n ls ++ replicate (n - length ls) line

-- the kept lines of bytes behind one kept line more, which begins behind the first `had` bytes and is the first one where there is no span
abbrev pub marked : List ℕ → Option (ℕ × ℕ) → ℕ → ℕ → ℕ → List ℕ
marked ls None had n line = ls
marked ls (Some span) had n line = resized (resized ls had span.0) n line

-- the statement so far has these kept lines
pub record Holds (u : Unfinished) (rows : List KeptLine) : Type 0 where
  pub bytes : u.bytes.items ≡ bytes_of rows
  pub lines : u.lines.items ≡ marks_of rows
  pub span : u.span ≡ span_of rows
