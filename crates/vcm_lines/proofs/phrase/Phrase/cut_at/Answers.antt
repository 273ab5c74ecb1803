use Rattle.std.proofs.Common.{sym, ◌∙◌}
use Rattle.std.proofs.lemmas.List.{take_rest}
use Rattle.vcm_lines.proofs.CutLemmas.{cut_some, cut_none}
use Rattle.vcm_lines.proofs.phrase.Phrase.cut_at.Goals as goal

pub returns-in-None-clause-front : goal.returns-in-None-clause-front
returns-in-None-clause-front c = (cut_none c.self.inside.text.now c.args.cutter c.self.inside.words.now c.args.self.now c.self.view_is (sym c.find.ensures ∙ c.in-None.is)).0

pub returns-in-None-clause-rest : goal.returns-in-None-clause-rest
returns-in-None-clause-rest c = (cut_none c.self.inside.text.now c.args.cutter c.self.inside.words.now c.args.self.now c.self.view_is (sym c.find.ensures ∙ c.in-None.is)).1

pub returns-in-Some-clause-front : goal.returns-in-Some-clause-front
returns-in-Some-clause-front c = (cut_some c.self.inside.text.now c.args.cutter c.self.inside.words.now c.args.self.now c.in-Some.place c.self.view_is (sym c.find.ensures ∙ c.in-Some.is)).0

pub returns-in-Some-clause-rest : goal.returns-in-Some-clause-rest
returns-in-Some-clause-rest c = rw take_rest
    (cut_some c.self.inside.text.now c.args.cutter c.self.inside.words.now c.args.self.now c.in-Some.place c.self.view_is (sym c.find.ensures ∙ c.in-Some.is)).1
