-- What becomes of statements, and so of their lines.
use Rattle.std.specs.Prelude.{◌≡◌, ℕ, false, List, [], ◌∷◌, if◌then◌else◌}
use Rattle.vcm_lines.specs.Segments.{continues}
use Rattle.vcm_lines.specs.Statements.{KeptLine, kept_line, is_empty, first_line}
use Rattle.vcm_adapt.specs.declared.edit.Edit.{Edit}
use Rattle.vcm_adapt.specs.declared.edit.Edit.TheVariants.{Keep, LeaveOut, Put}

-- what becomes of the lines of a statement behind its first one
abbrev pub of_others : Edit → Edit
of_others Keep = Keep
of_others _ = LeaveOut

-- what becomes of the statements from this line on, once it is read
abbrev pub choices_behind : List ℕ → Edit → List Edit → List Edit
choices_behind l c cs = if is_empty l then c ∷ cs else if continues l then of_others c ∷ cs else cs

-- what becomes of each line, by what becomes of each statement: a line that gives no statement anything stays
abbrev pub line_edits : List Edit → List (List ℕ) → List Edit
line_edits cs [] = []
line_edits [] (l ∷ ls) = []
line_edits (c ∷ cs) (l ∷ ls) = (if is_empty l then Keep else c) ∷ line_edits (choices_behind l c cs) ls

-- what becomes of statements, each given as its kept lines: what is put has the line of the first
abbrev pub chosen : List Edit → List (List KeptLine) → List (List KeptLine)
chosen cs [] = []
chosen [] (g ∷ gs) = g ∷ gs
chosen (Keep ∷ cs) (g ∷ gs) = g ∷ chosen cs gs
chosen (LeaveOut ∷ cs) (g ∷ gs) = chosen cs gs
chosen (Put new ∷ cs) (g ∷ gs) = (kept_line (first_line g) new ∷ []) ∷ chosen cs gs

-- what is put is a statement of one line
abbrev pub IsStatement : Edit → Type 0
IsStatement (Put new) = (is_empty new ≡ false) × (continues new ≡ false)
IsStatement _ = Unit {0}

-- so it is with each of these
abbrev pub AreStatements : List Edit → Type 0
AreStatements [] = Unit {0}
AreStatements (c ∷ cs) = IsStatement c × AreStatements cs
