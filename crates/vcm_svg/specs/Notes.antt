-- What of a run wasn't tried, below the heading of a picture.
use Rattle.std.specs.Prelude.{ℕ, ℤ, pos, ◌+◌, ◌*◌, ◌*ℤ◌, min, Bool, if◌then◌else◌, List, [], ◌∷◌, ◌++◌, take, length, codes}
use Rattle.vcm_svg.specs.declared.legend.Sign.TheVariants as sign
use Rattle.vcm_svg.specs.declared.rect.Spot.{Spot}
use Rattle.vcm_svg.specs.declared.shapes.Class.TheVariants as class
use Rattle.vcm_svg.specs.declared.shapes.Placement.{Placement}
use Rattle.vcm_svg.specs.declared.shapes.Lettering.TheVariants.{Note}
use Rattle.vcm_svg.specs.Legend.{row_text}
use Rattle.vcm_svg.specs.Pieces.{joined}
use Rattle.vcm_svg.specs.Rect.{spot}
use Rattle.vcm_svg.specs.Shapes.{label, text}
use Rattle.vcm_svg.specs.Style.{notes_style}

-- where a line stands, so many units from the top
abbrev pub note_label : ℤ → ℕ → Placement
note_label u down = label Note u (spot (pos 20 *ℤ u) (pos down *ℤ u))

-- a line, so many units from the top
abbrev pub note_text : ℤ → ℕ → List ℕ → List ℕ
note_text u down line = text (note_label u down) (joined (line ∷ []))

-- lines, the first so many units from the top
abbrev pub notes_from : ℤ → ℕ → List (List ℕ) → List ℕ
notes_from u down [] = []
notes_from u down (line ∷ lines) = note_text u down line ++ notes_from u (min (down + 18) 65535) lines

-- how many units those are high that are shown, 40 at most
abbrev pub notes_high : List (List ℕ) → ℤ
notes_high lines = pos (18 * length (take 40 lines))

-- the row of the legend for ways that begin elsewhere, below its others
abbrev pub begins_row : Spot → ℤ → List ℕ
begins_row at u = row_text at u (165, class.Elsewhere, sign.Line, codes "begins elsewhere")

-- the same, if some way does
abbrev pub begins_if : Spot → ℤ → Bool → List ℕ
begins_if at u begins = if begins then begins_row at u else []

-- lines of what wasn't tried, if there are any, the first so many units from the top, with their style, and the row of a legend at this place
abbrev pub notes_text : ℤ → ℕ → List (List ℕ) → Spot → Bool → List ℕ
notes_text u down [] at begins = []
notes_text u down (line ∷ lines) at begins = notes_style u ++ (notes_from u down (take 40 (line ∷ lines)) ++ begins_if at u begins)
