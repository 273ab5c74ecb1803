use Rattle.std.proofs.Common.{◌≡◌, ◌-◌}
use Rattle.vcm_calls.specs.Lines.{behind_lines}
use Rattle.vcm_calls.proofs.lines.source_line.Given as goal

abbrev pub invariant-loop-left : goal.invariant-loop-left
invariant-loop-left l = behind_lines l.rest (l.left - 1) ≡ behind_lines l.text (l.number - 1)

abbrev pub decreases-loop-left : goal.decreases-loop-left
decreases-loop-left l = l.left
