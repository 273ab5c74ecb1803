-- The printed result of a run.
use Rattle.std.specs.Prelude.{ℕ, List, ◌++◌}
use Rattle.vcm_report.specs.Output.{output_lines}
use Rattle.vcm_report.specs.Printed.{position_line, steps_line, end_line}
use Rattle.vcm_state.specs.Held.{Held}

-- the standard output of a run that shows this state after so many steps
abbrev pub result_text : Held → ℕ → List ℕ
result_text h done =
    output_lines h.state.lines ++ (end_line h.tables h.state.stop done ++ (position_line h.state.position ++ steps_line done))
