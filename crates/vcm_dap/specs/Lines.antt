-- Breakpoints on source lines, and watches.
use Rattle.std.specs.Prelude.{◌≡◌, ◌⊎◌, ℕ, ◌<◌, ◌≤◌, min, nat_lt, ◌==◌, Bool, true, false, List, [], ◌∷◌, map, fold, Option, Some, None, option_and_then}
use Rattle.std.specs.Prelude.{if◌then◌else◌}
use Rattle.vcm_spec.specs.Setup.{Variable}
use Rattle.vcm_code.specs.Code.{CodeStatement}
use Rattle.vcm_console.specs.declared.command.VariableRef.{VariableRef}
use Rattle.vcm_console.specs.declared.command.Command.TheVariants.{Watch, Unwatch}
use Rattle.vcm_debug.specs.Debugging.{Debugging}
use Rattle.vcm_debug.specs.Session.{answer, with_line}

-- a statement begins on this line
abbrev pub BeginsOn : List CodeStatement → ℕ → Type 0
BeginsOn [] at = ⊥
BeginsOn (s ∷ ss) at = (s.line ≡ at) ⊎ BeginsOn ss at

-- a breakpoint on a line comes to stand on the least line, not above it, that a statement begins on; nowhere, where all begin above it
abbrev pub Settles : List CodeStatement → ℕ → Option ℕ → Type 0
Settles ss line None = (at : ℕ) → BeginsOn ss at → at < line
Settles ss line (Some at) = BeginsOn ss at × (line ≤ at) × ((other : ℕ) → BeginsOn ss other → line ≤ other → at ≤ other)

-- the lesser of two lines, the first of which may be none
abbrev pub lesser : Option ℕ → ℕ → ℕ
lesser None at = at
lesser (Some known) at = min known at

-- the lesser of the least line so far and another one, if this isn't above the wanted line
abbrev pub nearer : ℕ → Option ℕ → ℕ → Option ℕ
nearer line least at = if nat_lt at line then least else Some (lesser least at)

-- the same over statements, one after another
abbrev pub nearest : ℕ → Option ℕ → List CodeStatement → Option ℕ
nearest line least [] = least
nearest line least (s ∷ ss) = nearest line (nearer line least s.line) ss

-- where a breakpoint on a line comes to stand, computed. It is where it settles, and nowhere else (`LinesSettle` in Laws.antt)
abbrev pub settled : List CodeStatement → ℕ → Option ℕ
settled ss line = nearest line None ss

-- the flag of each statement is taken away
abbrev pub unflagged : List CodeStatement → List Bool → List Bool
unflagged [] bs = bs
unflagged (s ∷ ss) [] = []
unflagged (s ∷ ss) (b ∷ bs) = false ∷ unflagged ss bs

-- the session without any breakpoint
abbrev pub cleared : Debugging → Debugging
cleared d = record d { breakpoints = unflagged d.code.statements d.breakpoints }

-- the session with a breakpoint at each statement of this line too, if there is one
abbrev pub with_place : Debugging → Option ℕ → Debugging
with_place d None = d
with_place d (Some line) = with_line d line true

-- the same of these lines, one after another
abbrev pub with_places : Debugging → List (Option ℕ) → Debugging
with_places d places = fold with_place d places

-- the session with the breakpoints that are asked for, and with no others: each line that is asked for goes to where it settles
abbrev pub with_breakpoints : Debugging → List (Option ℕ) → Debugging
with_breakpoints d asked = with_places (cleared d) (map (option_and_then (settled d.code.statements)) asked)

-- of the statements behind one of this line, the flag of each that stands on the line of the one before it is taken away
abbrev pub thinned : ℕ → List CodeStatement → List Bool → List Bool
thinned before [] bs = bs
thinned before (s ∷ ss) [] = []
thinned before (s ∷ ss) (b ∷ bs) = (if s.line == before then false else b) ∷ thinned s.line ss bs

-- the session whose breakpoints stand at such statements alone that begin a line
abbrev pub at_heads : Debugging → Debugging
at_heads d = record d { breakpoints = thinned 0 d.code.statements d.breakpoints }

-- the same where lines are put as several statements; of a program as it is written the session stays
abbrev pub if_by_lines : Bool → Debugging → Debugging
if_by_lines true d = at_heads d
if_by_lines false d = d

-- a variable, as a command names it
abbrev pub named : Variable → VariableRef
named v = record { name = v.name; expansion = v.expansion }

-- the session in which this variable isn't watched any more
abbrev pub letting_go : Debugging → VariableRef → Debugging
letting_go d v = (answer d (Unwatch v)).session

-- the same of these variables, each named, one after another
abbrev pub without_watches : Debugging → List Variable → Debugging
without_watches d variables = fold letting_go d (map named variables)

-- the session that watches this variable too, if there is one
abbrev pub watching : Debugging → Option VariableRef → Debugging
watching d None = d
watching d (Some v) = (answer d (Watch v)).session

-- the same of these variables, one after another
abbrev pub watching_all : Debugging → List (Option VariableRef) → Debugging
watching_all d wanted = fold watching d wanted

-- the session that watches these variables and no others
abbrev pub with_watches : Debugging → List (Option VariableRef) → Debugging
with_watches d wanted = watching_all (without_watches d d.code.tables.variables) wanted
