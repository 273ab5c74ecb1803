use Rattle.std.proofs.Common.{sym, ◌∙◌}
use Rattle.std.proofs.lemmas.List.{take_rest}
use Rattle.vcm_blocks.proofs.Cuts.{uncut, cut_first, comma_shorter}
use Rattle.vcm_blocks.proofs.words.cut.Goals as goal

pub returns-in-None-clause-none : goal.returns-in-None-clause-none
returns-in-None-clause-none c = λ e. uncut c.args.word.now (sym c.comma.ensures ∙ c.in-None.is)

pub returns-in-Some-clause-some : goal.returns-in-Some-clause-some
returns-in-Some-clause-some c =
    rw take_rest (cut_first c.args.word.now c.in-Some.at (sym c.in-Some.ensures), comma_shorter c.args.word.now c.in-Some.at (sym c.in-Some.ensures))
