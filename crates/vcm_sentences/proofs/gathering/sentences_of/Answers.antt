use Rattle.std.proofs.Common.{arith}
use Rattle.std.proofs.lemmas.Grind.{common_steps}
use Rattle.vcm_sentences.specs.Stretches.{text_lines}
use Rattle.vcm_sentences.proofs.StretchLemmas.{none_ahead}
use Rattle.vcm_sentences.proofs.gathering.sentences_of.Goals as goal

pub returns-clause-sentences : goal.returns-clause-sentences
returns-clause-sentences c = c.in_ok-end.ensures.told (text_lines c.args.text.now)
    (rw (none_ahead c.lines.number c.lines.rest.now (grind (arith, common_steps))) at c.lines.invariant)

pub returns-clause-owners : goal.returns-clause-owners
returns-clause-owners c = c.in_ok-end.ensures.owners (text_lines c.args.text.now)
    (rw (none_ahead c.lines.number c.lines.rest.now (grind (arith, common_steps))) at c.lines.invariant)
