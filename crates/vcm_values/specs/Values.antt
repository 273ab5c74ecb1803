-- Values of variables, asked for by their names.
use Rattle.std.specs.Prelude.{ℕ, ◌==◌, ◌&&◌, nat_lt, ℤ, pos, Bool, List, ◌++◌, codes, slice_get, position, Option, Some, None, Result, Ok, if◌then◌else◌}
use Rattle.std.specs.List.{flat_map}
use Rattle.std.specs.Str.{bytes_eq}
use Rattle.vcm_spec.specs.Setup.{Tables, Variable}
use Rattle.vcm_console.specs.declared.command.VariableRef.{VariableRef}
use Rattle.vcm_console.specs.declared.command.Command.{Command}
use Rattle.vcm_console.specs.declared.command.Command.TheVariants as c
use Rattle.vcm_console.specs.declared.reply.Reply.{Reply}
use Rattle.vcm_console.specs.Replies.{variable_name, value_text}

-- whether a variable has the wanted name and belongs to the wanted expansion
abbrev pub is_wanted : VariableRef → Variable → Bool
is_wanted wanted v = bytes_eq v.name wanted.name && v.expansion == wanted.expansion

-- a place below 65,536
abbrev pub small_place : Option ℕ → Option ℕ
small_place None = None
small_place (Some i) = if nat_lt i 65536 then Some i else None

-- where the first wanted variable stands
abbrev pub place_of : VariableRef → Tables → Option ℕ
place_of wanted tables = small_place (position (is_wanted wanted) tables.variables)

-- where the variable stands that a command of the debugger shows, if it shows one
abbrev pub place_named : Tables → Result Command Reply → Option ℕ
place_named tables (Ok (c.Show wanted)) = place_of wanted tables
place_named tables _ = None

-- the value at an index, 0 where there is none
abbrev pub value_or_zero : Option ℤ → ℤ
value_or_zero None = pos 0
value_or_zero (Some z) = z

abbrev pub value_at : List ℤ → ℕ → ℤ
value_at values i = value_or_zero (slice_get values i)

-- the line of a variable with this value: its name, a blank, the value
abbrev pub line_with : Tables → ℕ → ℤ → List ℕ
line_with tables i value = variable_name tables i ++ (codes " " ++ (value_text (slice_get tables.variables i) value ++ codes "\n"))

-- that with its own
abbrev pub value_line : Tables → List ℤ → ℕ → List ℕ
value_line tables values i = line_with tables i (value_at values i)

-- the lines of some variables
abbrev pub values_text : Tables → List ℤ → List ℕ → List ℕ
values_text tables values wanted = flat_map (value_line tables values) wanted
