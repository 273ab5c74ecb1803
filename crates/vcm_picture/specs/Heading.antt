-- The first line of the heading.
use Rattle.std.specs.Prelude.{ℕ, ◌-◌, List, length, take, Option}
use Rattle.vcm_spec.specs.declared.stop.StopPlace.{StopPlace}
use Rattle.vcm_spec.specs.Setup.{Tables}
use Rattle.vcm_report.specs.Printed.{end_line}

-- a line without its end
abbrev pub without_end : List ℕ → List ℕ
without_end line = take (length line - 1) line

-- the first line: why the run stopped, or how many steps were done without a stop
abbrev pub first_line : Tables → Option StopPlace → ℕ → List ℕ
first_line tables stop done = without_end (end_line tables stop done)
