use Rattle.std.proofs.Common.{◌≡◌, ◌+◌, length}
use Rattle.vcm_num.specs.Lines.{whole_lines}
use Rattle.vcm_survey.proofs.surveying.is_too_long.Given as goal

abbrev pub invariant-loop-count : goal.invariant-loop-count
invariant-loop-count l = record { whole : l.count + length (whole_lines l.rest) ≡ length (whole_lines l.fn.text) }
