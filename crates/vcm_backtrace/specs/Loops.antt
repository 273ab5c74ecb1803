-- The rounds of the loops round a statement.
use Rattle.std.specs.Prelude.{ℕ, zero, suc, ℤ, pos, nat_lt, if◌then◌else◌, List, [], ◌∷◌, ◌++◌, slice_get, unwrap_or, Option, Some, None, decimal, codes}
use Rattle.vcm_spec.specs.Setup.{Tables}
use Rattle.vcm_code.specs.Code.{Op, CodeStatement}
use Rattle.vcm_code.specs.declared.op.Op.TheVariants.{Do}
use Rattle.vcm_report.specs.Printed.{in_a_row}
use Rattle.vcm_console.specs.Replies.{variable_name, value_text}
use Rattle.vcm_cause.specs.Behind.{round_of}

-- which round of the loop that a line begins
abbrev pub round_front : (round line : ℕ) → List ℕ
round_front round line = in_a_row (codes "round " ∷ decimal round ∷ codes " of DO line " ∷ decimal line ∷ codes ", " ∷ [])

-- a variable and its value, of these values of all
abbrev pub value_shown : Tables → List ℤ → ℕ → List ℕ
value_shown tables values v =
    variable_name tables v ++ (codes " " ++ value_text (slice_get tables.variables v) (unwrap_or (slice_get values v) (pos 0)))

-- the same, and the end of the line
abbrev pub index_text : Tables → List ℤ → ℕ → List ℕ
index_text tables values v = value_shown tables values v ++ codes "\n"

-- the line of a loop
abbrev pub loop_line : Tables → List ℤ → (rounds : List ℕ) → (line v pair : ℕ) → List ℕ
loop_line tables values rounds line v pair = round_front (round_of rounds pair) line ++ index_text tables values v

-- the line of a loop whose exit lies behind the statement with this number
abbrev pub open_line : Tables → List ℤ → List ℕ → (number line v pair exit : ℕ) → List ℕ
open_line tables values rounds number line v pair exit = if nat_lt number exit then loop_line tables values rounds line v pair else []

-- the line of what a statement above does, if it is a DO whose exit lies behind the statement with this number
abbrev pub op_round : Tables → List ℤ → List ℕ → (number line : ℕ) → Op → List ℕ
op_round tables values rounds number line (Do v pair a b c exit) = open_line tables values rounds number line v pair exit
op_round tables values rounds number line op = []

-- the line of a statement above
abbrev pub line_if_round : Tables → List ℤ → List ℕ → ℕ → CodeStatement → List ℕ
line_if_round tables values rounds number s = op_round tables values rounds number s.line s.op

-- the line of the statement, if there is one
abbrev pub line_if_there : Tables → List ℤ → List ℕ → ℕ → Option CodeStatement → List ℕ
line_if_there tables values rounds number None = []
line_if_there tables values rounds number (Some s) = line_if_round tables values rounds number s

-- a line for each loop round the statement with this number, of those that begin before the place k, the innermost first
abbrev pub loop_lines : Tables → List ℤ → List ℕ → ℕ → List CodeStatement → ℕ → List ℕ
loop_lines tables values rounds number ss zero = []
loop_lines tables values rounds number ss (suc k) = line_if_there tables values rounds number (slice_get ss k) ++ loop_lines tables values rounds number ss k
