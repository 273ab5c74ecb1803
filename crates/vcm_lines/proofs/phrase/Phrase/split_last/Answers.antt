use Rattle.std.proofs.Common.{sym, ◌∙◌}
use Rattle.vcm_lines.proofs.CutLemmas.{split_is}
use Rattle.vcm_lines.proofs.phrase.Phrase.split_last.Goals as goal

pub returns-in-Some : goal.returns-in-Some
returns-in-Some c =
    let s = split_is c.self.inside.text.now c.self.inside.words.now c.in-Some.words.now c.in-Some.word.now c.args.self.now c.self.view_is c.in-Some.ensures.cases.0 in
    (s.0, s.1 ∙ sym c.token_of.ensures)
