-- A margin as text.
use Rattle.std.specs.Prelude.{ℕ, ◌+◌, List, [], ◌∷◌, ◌++◌, Option, Some, None, decimal, codes}
use Rattle.vcm_num.specs.declared.point.Point.{Point}
use Rattle.vcm_num.specs.Texts.{thousandths}
use Rattle.vcm_spec.specs.declared.feature.Feature.{Feature}
use Rattle.vcm_spec.specs.declared.words.Source.TheVariants.{Actual}
use Rattle.vcm_spec.specs.Setup.{Tables}
use Rattle.vcm_report.specs.Printed.{in_a_row, position_line, steps_line, feature_words, stopped_line}
use Rattle.vcm_margin.specs.declared.difference.Difference.{Difference}
use Rattle.vcm_margin.specs.declared.difference.Difference.TheVariants.{Stop, Next, Feature as Measured}
use Rattle.vcm_margin.specs.declared.difference.Margin.{Margin}
use Rattle.vcm_margin.specs.declared.difference.Met.{Met}
use Rattle.vcm_margin.specs.declared.difference.Met.TheVariants.{Home, Behind}
use Rattle.vcm_margin.specs.declared.difference.Seen.{Seen}
use Rattle.vcm_margin.specs.declared.difference.StatementPlace.{StatementPlace}

-- which statement measures a point, and the end of the line
abbrev pub place_text : StatementPlace → List ℕ
place_text place = in_a_row (codes " at " ∷ decimal place.number ∷ codes " line " ∷ decimal place.line ∷ codes "\n" ∷ [])

-- a measured point, and which statement measures it
abbrev pub feature_text : Tables → ℕ → Option Feature → StatementPlace → List ℕ
feature_text tables i f place = feature_words tables Actual i f ++ place_text place

-- which statement is next
abbrev pub next_text : ℕ → List ℕ
next_text n = in_a_row (codes "next " ∷ decimal n ∷ codes "\n" ∷ [])

-- in what a run differs
abbrev pub difference_text : Tables → Difference → List ℕ
difference_text tables (Stop (Some place)) = stopped_line tables place
difference_text tables (Stop None) = codes "no stop\n"
difference_text tables (Next n) = next_text n
difference_text tables (Measured i f place) = feature_text tables i f place

-- both
abbrev pub state_lines : Point → ℕ → List ℕ
state_lines p n = position_line p ++ steps_line n

-- the backtrace of its statement, and where it then stands
abbrev pub reached_text : Seen → (backtrace : List ℕ) → List ℕ
reached_text seen backtrace = backtrace ++ state_lines seen.position seen.steps

-- in what a run differs, the backtrace of the statement, and where it then stands
abbrev pub seen_text : Tables → Seen → (backtrace : List ℕ) → List ℕ
seen_text tables seen backtrace = difference_text tables seen.what ++ reached_text seen backtrace

-- what is met
abbrev pub difference_or_home : Tables → Met → (backtrace : List ℕ) → List ℕ
difference_or_home tables Home backtrace = codes "P06 HomeNotClear\n"
difference_or_home tables (Behind seen) backtrace = seen_text tables seen backtrace

-- the half width
abbrev pub width_text : ℕ → List ℕ
width_text h = in_a_row (codes "margin " ∷ decimal h ∷ codes "\n" ∷ [])

-- the half width that is one micrometre more
abbrev pub wider_text : ℕ → List ℕ
wider_text h = in_a_row (codes "at " ∷ decimal (h + 1) ∷ codes " " ∷ [])

-- what is met with it, if there is a wider tip
abbrev pub met_text : Tables → ℕ → Option Met → (backtrace : List ℕ) → List ℕ
met_text tables h None backtrace = []
met_text tables h (Some met) backtrace = wider_text h ++ difference_or_home tables met backtrace

-- the half width, and what is met, with the lines of the backtrace of the statement at which it is
abbrev pub margin_text : Tables → Margin → (backtrace : List ℕ) → List ℕ
margin_text tables m backtrace = width_text m.tip ++ met_text tables m.tip m.met backtrace
