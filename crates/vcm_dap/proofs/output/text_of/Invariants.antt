use Rattle.std.proofs.Common.{◌≡◌, take}
use Rattle.vcm_report.specs.Output.{output_lines}
use Rattle.vcm_dap.proofs.output.text_of.Given as goal

abbrev pub invariant-loop-line : goal.invariant-loop-line
invariant-loop-line l = l.text.items ≡ output_lines (take l.line-index l.lines)
