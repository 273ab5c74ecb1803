-- The rows that tell what does not change in a run.
use Rattle.std.specs.Prelude.{ℕ, ◌+◌, Bool, true, false, List, [], ◌∷◌, ◌++◌, length, flat_map, slice_get, Option, Some, None, decimal, codes}
use Rattle.vcm_spec.specs.declared.workpiece.Block3.{Block3}
use Rattle.vcm_spec.specs.declared.workpiece.Bounds.{Bounds}
use Rattle.vcm_spec.specs.Setup.{Tables}
use Rattle.vcm_spec.specs.Workpiece.{Workpiece}
use Rattle.std.specs.Str.Lines.{lines}
use Rattle.vcm_forms.specs.Statements.{notice_word}
use Rattle.vcm_program.specs.declared.accepted.Noticed.{Noticed}
use Rattle.vcm_code.specs.declared.code.Code.{Code}
use Rattle.vcm_code.specs.Code.{CodeStatement}
use Rattle.vcm_code.specs.Words.{word_of, word_text}
use Rattle.vcm_report.specs.Printed.{in_a_row}
use Rattle.vcm_rows.specs.Spelled.{spelled}
use Rattle.vcm_rows.specs.Rows.{rows_below, point_row, points_row}

-- ---- the workpiece

-- a block: B, its low corner and its high one
abbrev pub block_row : Block3 → List ℕ
block_row block = points_row (codes "B ") block.low block.high

-- half the width of the tip: T 250
abbrev pub tip_row : ℕ → List ℕ
tip_row tip = in_a_row (codes "T " ∷ decimal tip ∷ codes "\n" ∷ [])

-- the limits, home and the tip
abbrev pub bounds_rows : Bounds → List ℕ
bounds_rows b = points_row (codes "P ") b.low b.high ++ (point_row (codes "H ") b.home ++ tip_row b.tip)

-- the workpiece: what bounds it, and the blocks in order
abbrev pub part_rows : Workpiece → List ℕ
part_rows part = bounds_rows part.bounds ++ flat_map block_row part.blocks

-- ---- the text that is shown

-- a line: L and its bytes
abbrev pub text_row : List ℕ → List ℕ
text_row line = codes "L " ++ (spelled line ++ codes "\n")

-- its lines, without their ends
abbrev pub text_rows : List ℕ → List ℕ
text_rows text = flat_map text_row (lines text)

-- how many lines of a listing stand before that of statement 0
abbrev pub lines_before : Tables → ℕ
lines_before tables = 1 + (length tables.variables + (length tables.features + length tables.frames))

-- where the text is a listing: I and that number
abbrev pub listing_row : Bool → Tables → List ℕ
listing_row true tables = in_a_row (codes "I " ∷ decimal (lines_before tables) ∷ codes "\n" ∷ [])
listing_row false tables = []

-- ---- the code

-- a statement: C, its source line and its word
abbrev pub statement_row : Option CodeStatement → List ℕ
statement_row None = []
statement_row (Some s) = in_a_row (codes "C " ∷ decimal s.line ∷ codes " " ∷ word_text (word_of s.op) ∷ codes "\n" ∷ [])

-- the statements in order
abbrev pub code_rows : Code → List ℕ
code_rows c = rows_below (λ n. statement_row (slice_get c.statements n)) (length c.statements)

-- a line without effect: N, its number and its word
abbrev pub notice_row : Noticed → List ℕ
notice_row n = in_a_row (codes "N " ∷ decimal n.line ∷ codes " " ∷ notice_word n.word ∷ codes "\n" ∷ [])

-- ---- all of them

-- the rows that stand before any state: of the workpiece, of the shown text, which may be a listing, of the code, and of lines without effect
abbrev pub opening_rows : Workpiece → Code → (shown : List ℕ) → (is_listing : Bool) → List Noticed → List ℕ
opening_rows part c shown is_listing notices =
    codes "vcm-view 1\n" ++ (part_rows part ++ (text_rows shown ++ (listing_row is_listing c.tables ++ (code_rows c ++ flat_map notice_row notices))))
