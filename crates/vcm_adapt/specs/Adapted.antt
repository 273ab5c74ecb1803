-- A text whose lines are put otherwise.
use Rattle.std.specs.Prelude.{ℕ, List, [], ◌∷◌, ◌++◌}
use Rattle.std.specs.List.{flat_map}
use Rattle.vcm_adapt.specs.declared.edit.Edit.{Edit}
use Rattle.vcm_adapt.specs.declared.edit.Edit.TheVariants.{Keep, LeaveOut, Put}
use Rattle.vcm_num.specs.Lines.{whole_lines}
use Rattle.vcm_adapt.specs.Marks.{mark}

-- what becomes of a line
abbrev pub edited : Edit → List ℕ → List ℕ
edited Keep line = line
edited LeaveOut line = mark ++ line
edited (Put new) line = new ++ (32 ∷ 32 ∷ (mark ++ line))

-- what becomes of lines: those behind the last edit stay
abbrev pub edited_lines : List Edit → List (List ℕ) → List (List ℕ)
edited_lines [] ls = ls
edited_lines (e ∷ es) [] = []
edited_lines (e ∷ es) (l ∷ ls) = edited e l ∷ edited_lines es ls

-- the adapted text
abbrev pub adapted : List Edit → List ℕ → List ℕ
adapted es text = flat_map (λ l. l) (edited_lines es (whole_lines text))
