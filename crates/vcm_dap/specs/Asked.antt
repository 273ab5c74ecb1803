-- Which lines a request for breakpoints asks for, and which variables one for watches.
use Rattle.std.specs.Prelude.{◌≡◌, ⊤, ℕ, ◌+◌, ◌-◌, ◌^◌, min, ◌==◌, Bool, true, false, not, ◌&&◌, ◌||◌, List, [], ◌∷◌, ◌++◌, length, codes, Option, Some, None}
use Rattle.std.specs.Prelude.{option_map, option_and_then, ok_or, unwrap_or, MatchOption, if◌then◌else◌}
use Rattle.std.specs.Result.{result_ok}
use Rattle.std.specs.Str.{bytes_eq}
use Rattle.std.specs.Str.Parse.{ParsesUnsigned}
use Rattle.json.specs.Json.{Json, Items, no_items, item}
use Rattle.json.specs.Find.{get, as_str, as_number, as_array}
use Rattle.vcm_wire.specs.Requests.{argument}
use Rattle.vcm_console.specs.declared.command.VariableRef.{VariableRef}
use Rattle.vcm_console.specs.declared.command.Command.{Command}
use Rattle.vcm_console.specs.declared.command.Command.TheVariants.{Show}
use Rattle.vcm_console.specs.Parsing.{command_of}
use Rattle.vcm_debug.specs.Debugging.{Debugging}
use Rattle.vcm_debug.specs.Session.{variable_of}

-- whether a text is there that isn't empty
abbrev pub is_filled : Option (List ℕ) → Bool
is_filled None = false
is_filled (Some text) = not (length text == 0)

-- whether an item has a text of this name that isn't empty
abbrev pub has_text : Json → List ℕ → Bool
has_text j name = is_filled (option_and_then as_str (get name j))

-- whether an item says more than what it breaks on
abbrev pub has_condition : Json → Bool
has_condition j = has_text j (codes "condition") || has_text j (codes "hitCondition") || has_text j (codes "logMessage")

-- a value is this whole number below 2^64; none where it is no such number. A value is one number at most
abbrev pub IsNumber : Json → Option ℕ → Type 0
IsNumber value number = MatchOption (as_number value) (number ≡ None) (λ text. ParsesUnsigned {E = List ℕ} 64 10 text (ok_or number text))

-- what tells the line of an item: its member `line`, and where it has none the item itself
abbrev pub line_value : Json → Json
line_value j = unwrap_or (get (codes "line") j) j

-- the line of the text that the client's number means, where its lines count from 0, and where they count from 1
abbrev pub line_in : Bool → ℕ → ℕ
line_in true number = min (number + 1) (2 ^ 64 - 1)
line_in false number = number

-- an item asks for the line of this value, unless it says more than that
abbrev pub AsksFor : Bool → Bool → Json → Option ℕ → Type 0
AsksFor is_from_0 true value asked = asked ≡ None
AsksFor is_from_0 false value asked = (number : Option ℕ) × IsNumber value number × (asked ≡ option_map (line_in is_from_0) number)

-- an item asks for this line of the text, or for none
abbrev pub AsksLine : Bool → Json → Option ℕ → Type 0
AsksLine is_from_0 j asked = AsksFor is_from_0 (has_condition j) (line_value j) asked

-- these items ask for these lines, one for each. Items ask for one list alone (`LinesAreOne` in Laws.antt)
abbrev pub AskLines : Bool → Items → List (Option ℕ) → Type 0
AskLines is_from_0 no_items [] = ⊤
AskLines is_from_0 no_items (a ∷ asked) = ⊥
AskLines is_from_0 (item j js) [] = ⊥
AskLines is_from_0 (item j js) (a ∷ asked) = AsksLine is_from_0 j a × AskLines is_from_0 js asked

-- the items of a value that is an array; none of another one
abbrev pub items_in : Option Json → Items
items_in value = unwrap_or (option_and_then as_array value) no_items

-- the first of two values that is there
abbrev pub first_of : Option Json → Option Json → Option Json
first_of None other = other
first_of (Some j) other = Some j

-- what a request for breakpoints lists: `breakpoints`, and where that is absent `lines`
abbrev pub listed_breakpoints : Json → Option Json
listed_breakpoints message = first_of (argument message (codes "breakpoints")) (argument message (codes "lines"))

-- whether an access is that of each change. It is where none is told
abbrev pub is_write : Option (List ℕ) → Bool
is_write None = true
is_write (Some access) = bytes_eq access (codes "write")

-- whether an item asks for each change of what it names, and says no more than that
abbrev pub is_plain : Json → Bool
is_plain j = not (has_condition j) && is_write (option_and_then as_str (get (codes "accessType") j))

-- the command of a word with this behind it, if it is one
abbrev pub typed : List ℕ → List ℕ → Option Command
typed word behind = result_ok (command_of ((word ++ codes " ") ++ behind))

-- the variable that a command shows, if it shows one
abbrev pub shown_by : Option Command → Option VariableRef
shown_by (Some (Show v)) = Some v
shown_by _ = None

-- a variable, if the session has it
abbrev pub if_known : Debugging → VariableRef → Option VariableRef
if_known d v = option_map (λ i. v) (variable_of d v)

-- the variable that a name names behind `show`, if the session has it
abbrev pub variable_named : Debugging → List ℕ → Option VariableRef
variable_named d name = option_and_then (if_known d) (shown_by (typed (codes "show") name))

-- the variable that an item asks for, if it asks for one
abbrev pub asked_variable : Debugging → Json → Option VariableRef
asked_variable d j = if is_plain j then option_and_then (variable_named d) (option_and_then as_str (get (codes "dataId") j)) else None

-- the variables that these items ask for, one for each
abbrev pub asked_variables : Debugging → Items → List (Option VariableRef)
asked_variables d no_items = []
asked_variables d (item j js) = asked_variable d j ∷ asked_variables d js
