use Rattle.std.proofs.Common.{false, ◌∙◌}
use Rattle.vcm_num.specs.Lines.{whole_lines}
use Rattle.vcm_sentences.specs.Stretches.{text_lines}
use Rattle.vcm_sentences.proofs.StretchLaws.{length_owners, length_lines, firsts_told}
use Rattle.vcm_sentences.proofs.laws.lines_have_owners.Goals as goal

pub returns-clause-each : goal.returns-clause-each
returns-clause-each c = λ text. length_owners false (text_lines text) ∙ length_lines 1 (whole_lines text)

pub returns-clause-first : goal.returns-clause-first
returns-clause-first c = λ text. firsts_told (text_lines text)
