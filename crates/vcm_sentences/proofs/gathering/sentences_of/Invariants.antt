use Rattle.std.proofs.Common.{length}
use Rattle.vcm_num.specs.Lines.{whole_lines}
use Rattle.vcm_sentences.specs.Stretches.{text_lines, text_lines_from}
use Rattle.vcm_sentences.specs.inner.Gathering.{AreRead}
use Rattle.vcm_sentences.proofs.gathering.sentences_of.Given as goal

abbrev pub invariant-lines : goal.invariant-lines
invariant-lines l = AreRead (text_lines l.text) l.gathering.begun l.gathering.is_open l.gathering.found.items.items l.gathering.found.owners.items
    (text_lines_from l.number (whole_lines l.rest))

abbrev pub decreases-lines : goal.decreases-lines
decreases-lines l = length l.rest
