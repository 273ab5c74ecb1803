-- Statements about lines: those that requests ask for, where they settle, and what is printed. Each is the contract of a law in src/laws.rt.
use Rattle.std.specs.Prelude.{◌≡◌, ℕ, Bool, List, Option, flat_map}
use Rattle.std.specs.List.{AllByRecursion}
use Rattle.std.specs.Str.{IsUtf8}
use Rattle.std.specs.Str.Lossy.{utf8_lossy}
use Rattle.json.specs.Json.{Items}
use Rattle.vcm_code.specs.Code.{CodeStatement}
use Rattle.vcm_report.specs.Output.{output_lines}
use Rattle.vcm_dap.specs.Asked.{AskLines}
use Rattle.vcm_dap.specs.Lines.{Settles, settled}
use Rattle.vcm_dap.specs.Telling.{AreCut}

-- items ask for one list of lines
abbrev pub LinesAreOne : Type 0
LinesAreOne = (is_from_0 : Bool) (js : Items) (asked other : List (Option ℕ)) → AskLines is_from_0 js asked → AskLines is_from_0 js other → asked ≡ other

-- where a breakpoint comes to stand is where its line settles, and a line settles nowhere else
abbrev pub LinesSettle : Type 0
LinesSettle =
    (ss : List CodeStatement) (line : ℕ) → Settles ss line (settled ss line) × ((place : Option ℕ) → Settles ss line place → place ≡ settled ss line)

-- what the events of lines in pieces tell, put together, is what `vcm run` prints of these lines. An event's text is told with U+FFFD in the place of what
-- is no UTF-8; where each line is UTF-8, so is each text, and is told as it is
pub record ArePrinted (pieces : List (List (List ℕ))) (lines : List (List ℕ)) : Type 0 where
  pub bytes : flat_map output_lines pieces ≡ output_lines lines
  pub texts : AllByRecursion IsUtf8 lines → flat_map (λ p. utf8_lossy (output_lines p)) pieces ≡ output_lines lines

abbrev pub LinesArePrinted : Type 0
LinesArePrinted = (pieces : List (List (List ℕ))) (lines : List (List ℕ)) → AreCut pieces lines → ArePrinted pieces lines
