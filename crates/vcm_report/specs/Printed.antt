-- Printed texts of stops and features.
use Rattle.std.specs.Prelude.{ℕ, Bool, true, false, if◌then◌else◌, List, [], ◌∷◌, ◌++◌, flat_map}
use Rattle.std.specs.Prelude.{unwrap_or, slice_get, Option, Some, None, decimal, codes}
use Rattle.vcm_num.specs.declared.point.Point.{Point}
use Rattle.vcm_num.specs.Point.{coordinate}
use Rattle.vcm_num.specs.Texts.{thousandths}
use Rattle.vcm_spec.specs.declared.feature.Feature.{Feature}
use Rattle.vcm_spec.specs.declared.stop.Missing.{Missing}
use Rattle.vcm_spec.specs.declared.stop.Missing.TheVariants as missing
use Rattle.vcm_spec.specs.declared.stop.Stop.{Stop}
use Rattle.vcm_spec.specs.declared.stop.Stop.TheVariants.{Ended, Collision, Missed, Travel, Overflow, DivZero}
use Rattle.vcm_spec.specs.declared.stop.Stop.TheVariants.{ZeroStep, Undefined, BadSetting, OutputFull}
use Rattle.vcm_spec.specs.declared.stop.StopPlace.{StopPlace}
use Rattle.vcm_spec.specs.declared.words.MovePhase.{MovePhase}
use Rattle.vcm_spec.specs.declared.words.MovePhase.TheVariants.{Move, Approach, Search, Retract}
use Rattle.vcm_spec.specs.declared.words.Source.{Source}
use Rattle.vcm_spec.specs.Setup.{Tables}
use Rattle.vcm_spec.specs.Texts.{letters, feature_line}

-- texts one after another
abbrev pub in_a_row : List (List ℕ) → List ℕ
in_a_row texts = flat_map (λ t. t) texts

-- a point in millimetres, with this text between its coordinates
abbrev pub point_text : List ℕ → Point → List ℕ
point_text between at =
    in_a_row (thousandths (coordinate at 0) ∷ between ∷ thousandths (coordinate at 1) ∷ between ∷ thousandths (coordinate at 2) ∷ [])

-- where the probe is
abbrev pub position_line : Point → List ℕ
position_line at = codes "position " ++ (point_text (codes " ") at ++ codes "\n")

-- how many steps were done
abbrev pub steps_line : ℕ → List ℕ
steps_line done = in_a_row (codes "steps " ∷ decimal done ∷ codes "\n" ∷ [])

-- that there was no stop in so many steps
abbrev pub no_stop_line : ℕ → List ℕ
no_stop_line done = in_a_row (codes "no stop after " ∷ decimal done ∷ codes " steps\n" ∷ [])

-- the word of a part of a motion
abbrev pub phase_text : MovePhase → List ℕ
phase_text Move = codes "MOVE"
phase_text Approach = codes "APPROACH"
phase_text Search = codes "SEARCH"
phase_text Retract = codes "RETRACT"

-- the name at an index
abbrev pub name_at : List (List ℕ) → ℕ → List ℕ
name_at names i = unwrap_or (slice_get names i) []

-- what isn't there yet, by its name
abbrev pub missing_text : Tables → Missing → List ℕ
missing_text tables (missing.Nominal i) = in_a_row (codes "F(" ∷ name_at tables.features i ∷ codes ")" ∷ [])
missing_text tables (missing.Actual i) = in_a_row (codes "FA(" ∷ name_at tables.features i ∷ codes ")" ∷ [])
missing_text tables (missing.Frame i) = in_a_row (codes "D(" ∷ name_at tables.frames i ∷ codes ")" ∷ [])

-- why a run stopped
abbrev pub stop_text : Tables → Stop → List ℕ
stop_text tables Ended = codes "stop ENDED"
stop_text tables (Collision phase hit) =
    in_a_row (codes "stop COLLISION " ∷ phase_text phase ∷ codes " block " ∷ decimal hit.block ∷ codes " permille " ∷ decimal hit.permille
    ∷ [])
stop_text tables Missed = codes "stop MISSED"
stop_text tables (Travel phase) = in_a_row (codes "stop TRAVEL " ∷ phase_text phase ∷ [])
stop_text tables Overflow = codes "stop OVERFLOW"
stop_text tables DivZero = codes "stop DIVZERO"
stop_text tables ZeroStep = codes "stop ZEROSTEP"
stop_text tables (Undefined what) = codes "stop UNDEFINED " ++ missing_text tables what
stop_text tables BadSetting = codes "stop BADSETTING"
stop_text tables OutputFull = codes "stop OUTPUTFULL"

-- whether the place of a stop is told: at the end of the program it isn't
abbrev pub has_place : Stop → Bool
has_place Ended = false
has_place _ = true

-- where it stopped, the statement's number and its source line, and the end of the line
abbrev pub place_text : StopPlace → List ℕ
place_text p =
    if has_place p.stop then in_a_row (codes " at " ∷ decimal p.number ∷ codes " line " ∷ decimal p.line ∷ codes "\n" ∷ []) else codes "\n"

-- the line of a stop
abbrev pub stopped_line : Tables → StopPlace → List ℕ
stopped_line tables p = stop_text tables p.stop ++ place_text p

-- how a run ended: its stop, or after how many steps there was none
abbrev pub end_line : Tables → Option StopPlace → ℕ → List ℕ
end_line tables (Some p) done = stopped_line tables p
end_line tables None done = no_stop_line done

-- the feature of this index: as OUTPUT prints it, or that it has none
abbrev pub feature_words : Tables → Source → ℕ → Option Feature → List ℕ
feature_words tables source i (Some f) = feature_line source (name_at tables.features i) f
feature_words tables source i None = letters source ++ (name_at tables.features i ++ codes ") undefined")

-- its line
abbrev pub feature_text : Tables → Source → ℕ → Option Feature → List ℕ
feature_text tables source i f = feature_words tables source i f ++ codes "\n"
