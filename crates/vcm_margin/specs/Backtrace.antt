-- The backtrace of the statement at which a wider tip meets something else.
use Rattle.std.specs.Prelude.{ℕ, ◌+◌, List, [], Option, Some, None}
use Rattle.vcm_spec.specs.Workpiece.{Workpiece}
use Rattle.vcm_code.specs.declared.code.Code.{Code}
use Rattle.vcm_part.specs.Tip.{with_tip}
use Rattle.vcm_backtrace.specs.Sources.{Sourced}
use Rattle.vcm_backtrace.specs.Backtrace.{backtrace_at}
use Rattle.vcm_margin.specs.declared.difference.Difference.{Difference}
use Rattle.vcm_margin.specs.declared.difference.Difference.TheVariants.{Stop, Next, Feature as Measured}
use Rattle.vcm_margin.specs.declared.difference.Margin.{Margin}
use Rattle.vcm_margin.specs.declared.difference.Met.{Met}
use Rattle.vcm_margin.specs.declared.difference.Met.TheVariants.{Home, Behind}
use Rattle.vcm_margin.specs.declared.difference.Seen.{Seen}

-- the number of the statement that is told of a difference, if one is
abbrev pub number_of : Difference → Option ℕ
number_of (Stop (Some place)) = Some place.number
number_of (Stop None) = None
number_of (Next n) = None
number_of (Measured i f place) = Some place.number

-- the backtrace of it, behind so many steps of a run beside this workpiece
abbrev pub backtrace_if : Option Sourced → Workpiece → Code → (steps : ℕ) → Option ℕ → List ℕ
backtrace_if s part c steps None = []
backtrace_if s part c steps (Some number) = backtrace_at s part c steps number

-- the same of what is met with a tip
abbrev pub backtrace_met : Option Sourced → Workpiece → Code → (tip : ℕ) → Met → List ℕ
backtrace_met s part c tip Home = []
backtrace_met s part c tip (Behind seen) = backtrace_if s (with_tip tip part) c seen.steps (number_of seen.what)

-- the same, if something is met
abbrev pub backtrace_with : Option Sourced → Workpiece → Code → (tip : ℕ) → Option Met → List ℕ
backtrace_with s part c tip None = []
backtrace_with s part c tip (Some met) = backtrace_met s part c tip met

-- of a margin: with one micrometre more
abbrev pub margin_backtrace : Option Sourced → Workpiece → Code → Margin → List ℕ
margin_backtrace s part c m = backtrace_with s part c (m.tip + 1) m.met
