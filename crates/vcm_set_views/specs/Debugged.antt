-- Sessions of the debugger on runs with several probes.
use Rattle.std.specs.Prelude.{ℕ, List, Option, IfSome, Result, Err}
use Rattle.std.specs.Io.KnownBytes.{Keeps}
use Rattle.vcm_console.specs.declared.reply.ServeFault.{ServeFault}
use Rattle.vcm_set_debug.specs.Session.{TurnedDebugging, opened}
use Rattle.vcm_set_debug.specs.Serving.{Served}
use Rattle.vcm_set_views.specs.declared.debugging.SetServeFault.{SetServeFault}
use Rattle.vcm_set_views.specs.declared.debugging.SetServeFault.TheVariants.{NoMemory, Serve}
use Rattle.vcm_set_views.specs.Fit.{Fit}

-- a session at the start of a run served these lines, and ended so
abbrev pub IsSession : Fit → List ℕ → Option (List ℕ) → Option (List ℕ) → Option (List ℕ) → Result (Unit {0}) ServeFault → Type 0
IsSession f lines after old new r = (last : TurnedDebugging) × Served 10000 1048576 (opened f.part f.probes f.variable f.code) lines after old new r last

-- memory was refused before the first line, and nothing was written; or the session ended with a fault
abbrev pub IsNoSession : Fit → Option (List ℕ) → Option (List ℕ) → SetServeFault → Option (List ℕ) → Option (List ℕ) → Type 0
IsNoSession f known after NoMemory old new = Keeps old new
IsNoSession f known after (Serve e) old new = IfSome known (λ lines. IsSession f lines after old new (Err e))
