use Rattle.std.proofs.Common.{List, ap, ◌∙◌}
use Rattle.std.specs.List.{list_all}
use Rattle.vcm_lines.specs.Lexemes.{Lexeme, is_spelled}
use Rattle.vcm_lines.proofs.CutLemmas.{spelled_is}
use Rattle.vcm_lines.proofs.phrase.Phrase.is_spelled.Goals as goal

pub returns : goal.returns
returns c = c.all_spelled.ensures ∙ spelled_is c.self.inside.text.now c.self.inside.words.now ∙ ap (λ (ws : List Lexeme). list_all is_spelled ws) c.self.view_is
