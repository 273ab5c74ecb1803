use Rattle.vcm_untried.proofs.Listed.{spans_are_lines}
use Rattle.vcm_untried.proofs.laws.spans_are_lines.Goals as goal

pub returns : goal.returns
returns c = spans_are_lines
