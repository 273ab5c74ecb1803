use Rattle.std.proofs.Common.{arith}
use Rattle.std.proofs.lemmas.Grind.{common_steps}
use Rattle.vcm_survey.proofs.TextLines.{all_lines}
use Rattle.vcm_survey.proofs.listing.whole_lines.Goals as goal

pub returns : goal.returns
returns c = all_lines _ _ c.lines.rest.now (grind (arith, common_steps)) c.lines.invariant.whole
