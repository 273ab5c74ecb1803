-- The rows that tell a state of the machine.
use Rattle.std.specs.Prelude.{ℕ, pos, List, [], ◌∷◌, ◌++◌, length, unwrap_or, slice_get, Option, Some, None, decimal, codes}
use Rattle.vcm_num.specs.declared.point.Point.{Point}
use Rattle.vcm_num.specs.Texts.{thousandths}
use Rattle.vcm_spec.specs.declared.feature.Feature.{Feature}
use Rattle.vcm_spec.specs.declared.words.Setting.{Setting}
use Rattle.vcm_spec.specs.declared.words.Setting.TheVariants.{Approach, Retract, Search, Depth}
use Rattle.vcm_spec.specs.declared.words.Source.{Source}
use Rattle.vcm_spec.specs.declared.words.Source.TheVariants.{Nominal, Actual}
use Rattle.vcm_spec.specs.Effect.{at_index}
use Rattle.vcm_spec.specs.Setup.{Tables, Variable}
use Rattle.vcm_spec.specs.World.{Settings, World}
use Rattle.vcm_words.specs.Operands.{setting_text}
use Rattle.vcm_words.specs.Rows.{kind_text}
use Rattle.vcm_report.specs.Printed.{in_a_row, feature_text}
use Rattle.vcm_console.specs.Replies.{named, value_text}
use Rattle.vcm_rows.specs.Rows.{rows_below, told_entries, point_then}
use Rattle.vcm_rows.specs.Frames.{frame_end}

-- the kind of a variable between blanks
abbrev pub kind_of : Option Variable → List ℕ
kind_of None = []
kind_of (Some v) = in_a_row (codes " " ∷ kind_text v.kind ∷ codes " " ∷ [])

-- a variable: V, its name, its kind and its value
abbrev pub variable_row : Tables → World → ℕ → List ℕ
variable_row tables w i =
    codes "V " ++ (named (slice_get tables.variables i) ++ (kind_of (slice_get tables.variables i)
    ++ (value_text (slice_get tables.variables i) (unwrap_or (slice_get w.variables i) (pos 0)) ++ codes "\n")))

-- a setting: S, its name, and its length in millimetres
abbrev pub setting_row : Setting → ℕ → List ℕ
setting_row which length = in_a_row (codes "S " ∷ setting_text which ∷ codes " " ∷ thousandths (pos length) ∷ codes "\n" ∷ [])

-- the settings
abbrev pub setting_rows : Settings → List ℕ
setting_rows s = setting_row Approach s.approach ++ (setting_row Retract s.retract ++ (setting_row Search s.search ++ setting_row Depth s.depth))

-- a feature that is there: F and its line of output
abbrev pub there_row : Tables → Source → ℕ → Option Feature → List ℕ
there_row tables source i None = []
there_row tables source i (Some f) = codes "F " ++ feature_text tables source i (Some f)

-- the feature of an index, as it was declared and as it was measured
abbrev pub feature_rows : Tables → World → ℕ → List ℕ
feature_rows tables w i = there_row tables Nominal i (at_index w.nominal i) ++ there_row tables Actual i (at_index w.actual i)

-- how many steps were taken, and where the probe is: K, the number, the point
abbrev pub place_row : ℕ → Point → List ℕ
place_row n at = in_a_row (codes "K " ∷ decimal n ∷ codes " " ∷ point_then at (codes "\n" ∷ []))

-- the state behind so many steps: variables, settings, features, the frame behind D, and the place
abbrev pub state_rows : Tables → ℕ → World → List ℕ
state_rows tables n w =
    rows_below (variable_row tables w) (told_entries (length tables.variables)) ++ (setting_rows w.settings
    ++ (rows_below (feature_rows tables w) (told_entries (length tables.features)) ++ (codes "D " ++ (frame_end w.frame ++ place_row n w.position))))
