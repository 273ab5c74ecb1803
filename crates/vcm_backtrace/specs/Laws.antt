-- A statement about backtraces. It is a clause of a law in src/laws.rt.
use Rattle.std.specs.Prelude.{ℕ, Option, replicate}
use Rattle.vcm_spec.specs.Workpiece.{Workpiece}
use Rattle.vcm_code.specs.declared.code.Code.{Code}
use Rattle.vcm_steps.specs.Passages.{passages}
use Rattle.vcm_backtrace.specs.Sources.{Sourced}
use Rattle.vcm_backtrace.specs.Backtrace.{backtrace_at, IsToldAlong}

-- what is told behind so many steps of a run is what is told at each of its steps
abbrev pub BacktracesAreToldAlong : Type 0
BacktracesAreToldAlong =
    (s : Option Sourced) (part : Workpiece) (c : Code) (n : ℕ) → IsToldAlong (backtrace_at s part c) s c.statements c.tables (replicate 32 0) (passages part c n)
