-- The result of a run with several probes.
use Rattle.std.specs.Prelude.{ℕ, List, ◌++◌}
use Rattle.vcm_spec.specs.Setup.{Tables}
use Rattle.vcm_spec.specs.World.{World}
use Rattle.vcm_report.specs.Output.{output_lines}
use Rattle.vcm_report.specs.Printed.{position_line, steps_line}
use Rattle.vcm_values.specs.Values.{values_text}
use Rattle.vcm_set_views.specs.declared.ends.SetEnd.{SetEnd}
use Rattle.vcm_set_views.specs.Ends.{ended_line}
use Rattle.vcm_set_views.specs.Fit.{Fit, behind}

-- the output lines, how it ended, where the probe is and how many steps were taken
abbrev pub run_in : Tables → World → SetEnd → List ℕ
run_in tables w e = output_lines w.lines ++ (ended_line tables e.end e.stop e.done ++ (position_line w.position ++ steps_line e.done))

-- and then the values of these variables
abbrev pub result_in : Tables → World → SetEnd → List ℕ → List ℕ
result_in tables w e places = run_in tables w e ++ values_text tables w.variables places

-- of a run that ended so
abbrev pub result_of : Fit → SetEnd → (places : List ℕ) → List ℕ
result_of f e places = result_in f.code.tables (behind f e.done).state.world e places
