-- One line of a session, answered.
use Rattle.std.specs.Prelude.{ℕ, Bool, List, Option, Result, Ok, Err}
use Rattle.std.specs.Io.KnownBytes.{Appends}
use Rattle.vcm_num.specs.declared.memory.WriteFault.{WriteFault}
use Rattle.vcm_debug.specs.Debugging.{Debugging}
use Rattle.vcm_debug.specs.Serving.{IsExchange, WritesSome}

-- what answering a line did: all of its text is written, or some of it
abbrev pub HasExchanged : Debugging → List ℕ → Debugging → Option (List ℕ) → Option (List ℕ) → Result Bool WriteFault → Type 0
HasExchanged old line new before after (Ok last) = (text : List ℕ) × IsExchange old line new text last × Appends before after text
HasExchanged old line new before after (Err e) =
    (text : List ℕ) × (last : Bool) × IsExchange old line new text last × WritesSome before after text
