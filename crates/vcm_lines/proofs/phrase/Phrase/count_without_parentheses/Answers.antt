use Rattle.std.proofs.Common.{List, not, ap, ◌∙◌}
use Rattle.std.specs.List.{count_by}
use Rattle.vcm_lines.specs.Lexemes.{Lexeme, is_parenthesis}
use Rattle.vcm_lines.proofs.CutLemmas.{counted_is}
use Rattle.vcm_lines.proofs.phrase.Phrase.count_without_parentheses.Goals as goal

pub returns : goal.returns
returns c = c.count_without_parentheses.ensures ∙ counted_is c.self.inside.text.now c.self.inside.words.now ∙ ap (λ (ws : List Lexeme). count_by (λ l. not (is_parenthesis l)) ws) c.self.view_is
