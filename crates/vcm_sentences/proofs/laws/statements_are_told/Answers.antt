use Rattle.std.proofs.Common.{false, map, sym, ap, ◌∙◌}
use Rattle.vcm_lines.specs.Statements.{grouped, first_line, bytes_of}
use Rattle.vcm_sentences.specs.Stretches.{text_lines, stretches}
use Rattle.vcm_sentences.specs.Laws.{begun_in}
use Rattle.vcm_sentences.proofs.StretchLaws.{stretches_grouped, all_bytes, all_numbers, begun_told, others_bare}
use Rattle.vcm_sentences.proofs.LineEndings.{kept_are}
use Rattle.vcm_sentences.proofs.laws.statements_are_told.Goals as goal

pub returns-clause-kept : goal.returns-clause-kept
returns-clause-kept c = λ text less. stretches_grouped (text_lines text) ∙ ap grouped (sym (kept_are text less))

pub returns-clause-lines : goal.returns-clause-lines
returns-clause-lines c = λ text less. all_numbers (stretches false (text_lines text)) ∙ ap (map first_line) (stretches_grouped (text_lines text) ∙ ap grouped (sym (kept_are text less)))

pub returns-clause-bytes : goal.returns-clause-bytes
returns-clause-bytes c = λ text less. all_bytes (begun_in text) ∙ ap (map bytes_of) (stretches_grouped (text_lines text) ∙ ap grouped (sym (kept_are text less)))

pub returns-clause-told : goal.returns-clause-told
returns-clause-told c = λ text. begun_told (stretches false (text_lines text))

pub returns-clause-others : goal.returns-clause-others
returns-clause-others c = λ text. others_bare (text_lines text)
