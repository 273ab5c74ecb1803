-- The lines of a text.
use Rattle.std.specs.Prelude.{ℕ, zero, suc, ◌-◌, List, drop, take, length}
use Rattle.std.specs.List.{prefix_len, suffix_len}
use Rattle.std.specs.Char.{is_ascii_whitespace}
use Rattle.vcm_num.specs.Lines.{first_line, after_line}

-- what stands behind so many lines
abbrev pub behind_lines : List ℕ → ℕ → List ℕ
behind_lines text zero = text
behind_lines text (suc k) = behind_lines (after_line text) k

-- the line with this number, the first being 1
abbrev pub line_of : List ℕ → ℕ → List ℕ
line_of text number = first_line (behind_lines text (number - 1))

-- without the blanks in front
abbrev pub from_first : List ℕ → List ℕ
from_first text = drop (prefix_len is_ascii_whitespace text) text

-- without the blanks at the end
abbrev pub to_last : List ℕ → List ℕ
to_last text = take (length text - suffix_len is_ascii_whitespace text) text

-- the line with this number, without the blanks at its ends
abbrev pub source_line : List ℕ → ℕ → List ℕ
source_line text number = to_last (from_first (line_of text number))
