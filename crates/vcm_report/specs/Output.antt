-- The printed text of output lines.
use Rattle.std.specs.Prelude.{ℕ, List, ◌++◌, flat_map, codes}

-- the output lines
abbrev pub output_lines : List (List ℕ) → List ℕ
output_lines lines = flat_map (λ line. line ++ codes "\n") lines
