use Rattle.std.proofs.Common.{sym, ◌∙◌}
use Rattle.std.proofs.lemmas.List.{take_rest}
use Rattle.vcm_words.proofs.FirstCut.{cut_none, cut_some}
use Rattle.vcm_words.proofs.words.cut.Goals as goal

pub returns-in-None : goal.returns-in-None
returns-in-None c = cut_none _ c.args.bytes.now (sym c.place_of.ensures ∙ c.in-None.is)

pub returns-in-Some : goal.returns-in-Some
returns-in-Some c = rw take_rest (cut_some _ c.args.bytes.now c.in-Some.at (sym c.in-Some.ensures))
