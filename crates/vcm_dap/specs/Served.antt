-- What a request does to the adapter.
use Rattle.std.specs.Prelude.{◌≡◌, ℕ, max, Bool, true, false, List, length, codes, Option, Some, None, is_some, option_and_then}
use Rattle.std.specs.Str.{bytes_eq}
use Rattle.json.specs.Json.{Json, Items}
use Rattle.json.specs.Find.{get, as_str}
use Rattle.vcm_debug.specs.Debugging.{Debugging, now}
use Rattle.vcm_wire.specs.Requests.{argument}
use Rattle.vcm_dap.specs.declared.asking.Ask.{Ask}
use Rattle.vcm_dap.specs.declared.asking.Ask.TheVariants as a
use Rattle.vcm_dap.specs.declared.adapter.Served.{Served}
use Rattle.vcm_dap.specs.declared.adapter.Served.TheVariants.{Done, Refused, Over}
use Rattle.vcm_dap.specs.Adapting.{Adapting}
use Rattle.vcm_dap.specs.Moving.{IsMoved}
use Rattle.vcm_dap.specs.Asked.{AskLines, items_in, listed_breakpoints, asked_variables}
use Rattle.vcm_dap.specs.Lines.{with_breakpoints, if_by_lines, with_watches}

-- the path of the file that a request speaks of
abbrev pub path_of : Json → Option (List ℕ)
path_of message = option_and_then as_str (option_and_then (get (codes "path")) (argument message (codes "source")))

-- whether two paths are there, and are the same
abbrev pub same_path : Option (List ℕ) → Option (List ℕ) → Bool
same_path (Some a) (Some b) = bytes_eq a b
same_path (Some a) None = false
same_path None b = false

-- breakpoints were set on the lines that these items ask for, if the request speaks of the text that is shown; else nothing has changed. In a producer's text
-- they stand where a line begins
abbrev pub IsBroken : Bool → Bool → Bool → Items → Debugging → Debugging → Type 0
IsBroken true by_lines is_from_0 js old new =
    (asked : List (Option ℕ)) × AskLines is_from_0 js asked × (new ≡ if_by_lines by_lines (with_breakpoints old asked))
IsBroken false by_lines is_from_0 js old new = new ≡ old

-- the variables that these items ask for are watched, and no others
abbrev pub IsWatching : Items → Debugging → Debugging → Type 0
IsWatching js old new = new ≡ with_watches old (asked_variables old js)

-- the session behind a request that was done. The client's lines count from 0 or from 1
abbrev pub IsDone : Bool → Adapting → Json → Ask → Debugging → Type 0
IsDone is_from_0 old message (a.Move m) new = IsMoved old.wanted old.session m new
IsDone is_from_0 old message a.Breakpoints new =
    IsBroken (same_path (path_of message) old.wanted.source) (is_some old.wanted.told) is_from_0 (items_in (listed_breakpoints message)) old.session new
IsDone is_from_0 old message a.DataBreakpoints new = IsWatching (items_in (argument message (codes "breakpoints"))) old.session new
IsDone is_from_0 old message (a.Show look) new = new ≡ old.session

-- how many output lines count as told behind a request that was done: behind a motion all that there are, each once
abbrev pub told_behind : Adapting → Ask → Debugging → ℕ
told_behind old (a.Move m) new = max old.told (length (now new).world.lines)
told_behind old _ new = old.told

-- the adapter behind a request that was served so. One that was refused, and the last one, change nothing
abbrev pub IsServed : Bool → Adapting → Json → Ask → Served → Adapting → Type 0
IsServed is_from_0 old message ask Done new =
    IsDone is_from_0 old message ask new.session × (new.told ≡ told_behind old ask new.session) × (new.wanted ≡ old.wanted)
IsServed is_from_0 old message ask Refused new = new ≡ old
IsServed is_from_0 old message ask Over new = new ≡ old
