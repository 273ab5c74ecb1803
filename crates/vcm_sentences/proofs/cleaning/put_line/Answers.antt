use Rattle.std.proofs.Common.{arith}
use Rattle.std.proofs.lemmas.Grind.{common_steps}
use Rattle.vcm_sentences.proofs.Putting.{put_text_done, put_dollar_done}
use Rattle.vcm_sentences.proofs.cleaning.put_line.Goals as goal

pub returns-clause-text : goal.returns-clause-text
returns-clause-text c = put_text_done c.args.line.now c.args.out.now.items c.segments.out.items c.segments.goes_on c.segments.rest.now
    (grind (arith, common_steps)) c.segments.invariant

pub returns-clause-goes_on : goal.returns-clause-goes_on
returns-clause-goes_on c = put_dollar_done c.args.line.now c.args.out.now.items c.segments.out.items c.segments.goes_on c.segments.rest.now
    (grind (arith, common_steps)) c.segments.invariant
