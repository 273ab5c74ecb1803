-- What the title block of a sheet on a paper says.
use Rattle.std.specs.Prelude.{ℕ, ℤ, pos, ◌*ℤ◌, List, [], ◌∷◌, ◌++◌, take, codes}
use Rattle.vcm_num.specs.Texts.{thousandths}
use Rattle.vcm_sheet.specs.declared.paper.Paper.{Paper}
use Rattle.vcm_sheet.specs.declared.paper.Paper.TheVariants.{A4, A3}
use Rattle.vcm_sheet.specs.Paper.{scale_words}
use Rattle.vcm_sheet.specs.Sayings.{Saying, say}
use Rattle.vcm_sheet.specs.Written.{written}

-- the name of a paper
abbrev pub paper_words : Paper → List ℕ
paper_words A4 = codes "A4"
paper_words A3 = codes "A3"

-- a cell: what it is, and its value
abbrev pub cell : List ℕ → List (List ℕ) → List Saying
cell what value = say (what ∷ []) ∷ say value ∷ []

-- the title of the program, cut off after 70 letters, and the file of the part, after 38
abbrev pub names_said : (title part : List ℕ) → List Saying
names_said title part = cell (codes "program") (written (take 70 title) ∷ []) ++ cell (codes "part") (written (take 38 part) ∷ [])

-- the tip's diameter
abbrev pub tip_cell : (tip : ℕ) → List Saying
tip_cell tip = cell (codes "tip") (codes "&#8960; " ∷ thousandths (pos 2 *ℤ pos tip) ∷ codes " mm" ∷ [])

-- the projection, which is drawn, and the paper
abbrev pub last_cells : Paper → List Saying
last_cells paper = say (codes "third-angle" ∷ []) ∷ cell (codes "sheet") (paper_words paper ∷ [])

-- the cells: the names, the tip's diameter, the scale, the projection and the paper
abbrev pub block_said : Paper → (title part : List ℕ) → (tip : ℕ) → (scale : ℤ) → List Saying
block_said paper title part tip scale =
    names_said title part ++ (tip_cell tip ++ (cell (codes "scale") (scale_words scale) ++ last_cells paper))
