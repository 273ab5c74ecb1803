-- The printed text of replies, each line with its line feed.
use Rattle.std.specs.Prelude.{ℕ, ◌-◌, ◌<◌, ◌≤◌, ◌==◌, ℤ, List, [], ◌∷◌, ◌++◌, length, drop, slice_get, Option, Some, None, decimal, codes}
use Rattle.std.specs.Prelude.{if◌then◌else◌}
use Rattle.std.specs.Fmt.{signed_decimal}
use Rattle.vcm_num.specs.declared.number.Kind.{Kind}
use Rattle.vcm_num.specs.declared.number.Kind.TheVariants.{Int, Real, Bool}
use Rattle.vcm_num.specs.Texts.{thousandths}
use Rattle.vcm_spec.specs.declared.stop.StopPlace.{StopPlace}
use Rattle.vcm_spec.specs.declared.words.Source.TheVariants.{Nominal, Actual}
use Rattle.vcm_spec.specs.Value.{is_true}
use Rattle.vcm_spec.specs.Setup.{Tables, Variable}
use Rattle.vcm_console.specs.declared.reply.Reason.{Reason}
use Rattle.vcm_console.specs.declared.reply.Reason.TheVariants.{Stopped, Break, Watch, Count}
use Rattle.vcm_console.specs.declared.reply.Standing.{Standing}
use Rattle.vcm_console.specs.declared.reply.CommandRefusal.{CommandRefusal}
use Rattle.vcm_console.specs.declared.reply.CommandRefusal.TheVariants.{UnknownCommand, NoSuchName, NoSuchStatement, CountOutOfRange}
use Rattle.vcm_console.specs.declared.reply.CommandRefusal.TheVariants.{BeforeStart}
use Rattle.vcm_console.specs.declared.reply.Reply.{Reply}
use Rattle.vcm_console.specs.declared.reply.Reply.TheVariants.{Set, Cleared, Found, Stands, Ran, Watched, Unwatched, Value, Features}
use Rattle.vcm_console.specs.declared.reply.Reply.TheVariants.{Listed, Lines, Bye, Refused}
use Rattle.vcm_code.specs.declared.code.Code.{Code}
use Rattle.vcm_code.specs.Code.{CodeStatement}
use Rattle.vcm_words.specs.declared.row.Row.TheVariants.{Numbered}
use Rattle.vcm_print.specs.Listed.{listed}
use Rattle.vcm_report.specs.Output.{output_lines}
use Rattle.vcm_report.specs.Printed.{in_a_row, stopped_line, feature_text}

-- the number of an expansion behind a number sign; nothing outside macros
abbrev pub number_sign : ℕ → List ℕ
number_sign n = if n == 0 then [] else codes "#" ++ decimal n

-- a variable's name; behind that of a local one stands the number of its expansion
abbrev pub named : Option Variable → List ℕ
named None = []
named (Some v) = v.name ++ number_sign v.expansion

-- the same of the variable at an index
abbrev pub variable_name : Tables → ℕ → List ℕ
variable_name tables i = named (slice_get tables.variables i)

-- a value as its kind prints it
abbrev pub kind_value : Kind → ℤ → List ℕ
kind_value Int z = signed_decimal z
kind_value Real z = thousandths z
kind_value Bool z = if is_true z then codes ".TRUE." else codes ".FALSE."

-- a variable's value, printed
abbrev pub value_text : Option Variable → ℤ → List ℕ
value_text None z = []
value_text (Some v) z = kind_value v.kind z

-- the next statement with its line, or the stop
abbrev pub standing_end : Tables → Standing → Option StopPlace → List ℕ
standing_end tables s None = in_a_row (codes "next " ∷ decimal s.next ∷ codes " line " ∷ decimal s.line ∷ codes "\n" ∷ [])
standing_end tables s (Some p) = stopped_line tables p

-- where a session stands: its steps, and then the next statement or the stop
abbrev pub standing_text : Tables → Standing → List ℕ
standing_text tables s = in_a_row (codes "step " ∷ decimal s.steps ∷ codes " " ∷ []) ++ standing_end tables s s.stop

-- why a run ended
abbrev pub reason_text : Tables → Reason → List ℕ
reason_text tables Stopped = []
reason_text tables Break = codes "break "
reason_text tables (Watch v) = codes "watch " ++ (variable_name tables v ++ codes " ")
reason_text tables Count = codes "count "

-- why a command is refused
abbrev pub refusal_text : CommandRefusal → List ℕ
refusal_text UnknownCommand = codes "G01 UnknownCommand\n"
refusal_text NoSuchName = codes "G02 NoSuchName\n"
refusal_text NoSuchStatement = codes "G03 NoSuchStatement\n"
refusal_text CountOutOfRange = codes "G04 CountOutOfRange\n"
refusal_text BeforeStart = codes "G05 BeforeStart\n"

-- how many output lines there are, which stands above those shown
abbrev pub lines_head : ℕ → List ℕ
lines_head n = in_a_row (codes "lines " ∷ decimal n ∷ codes "\n" ∷ [])

-- the listing line of the statement with this number
abbrev pub statement_line : Option CodeStatement → ℕ → List ℕ
statement_line None n = []
statement_line (Some s) n = listed (Numbered n s)

-- a reply's text: `lines` are all output lines
abbrev pub reply_text : Code → List (List ℕ) → Reply → List ℕ
reply_text code lines (Set n) = in_a_row (codes "break " ∷ decimal n ∷ codes " set\n" ∷ [])
reply_text code lines (Cleared n) = in_a_row (codes "break " ∷ decimal n ∷ codes " cleared\n" ∷ [])
reply_text code lines (Found l n) = in_a_row (codes "line " ∷ decimal l ∷ codes " statement " ∷ decimal n ∷ codes "\n" ∷ [])
reply_text code lines (Stands s) = standing_text code.tables s
reply_text code lines (Ran why s) = reason_text code.tables why ++ standing_text code.tables s
reply_text code lines (Watched v) = codes "watch " ++ (variable_name code.tables v ++ codes " set\n")
reply_text code lines (Unwatched v) = codes "watch " ++ (variable_name code.tables v ++ codes " cleared\n")
reply_text code lines (Value v z) =
    variable_name code.tables v ++ (codes " " ++ (value_text (slice_get code.tables.variables v) z ++ codes "\n"))
reply_text code lines (Features f n a) = feature_text code.tables Nominal f n ++ feature_text code.tables Actual f a
reply_text code lines (Listed n) = statement_line (slice_get code.statements n) n
reply_text code lines (Lines n k) = lines_head n ++ output_lines (drop (length lines - k) lines)
reply_text code lines Bye = codes "bye\n"
reply_text code lines (Refused e) = refusal_text e

-- the feature, the statement and the output lines that a reply speaks of are there
abbrev pub ReplyFits : Code → List (List ℕ) → Reply → Type 0
ReplyFits code lines (Features f n a) = f < length code.tables.features
ReplyFits code lines (Listed n) = n < length code.statements
ReplyFits code lines (Lines n k) = k ≤ length lines
ReplyFits code lines _ = Unit {0}

-- memory was refused, and this is where the session stands
abbrev pub halt_text : Tables → Standing → List ℕ
halt_text tables s = codes "no memory " ++ standing_text tables s
