use Rattle.std.proofs.Common.{sym, ◌∙◌}
use Rattle.std.proofs.lemmas.List.{take_rest}
use Rattle.vcm_num.proofs.WholeLines.{lines_last, lines_first}
use Rattle.vcm_num.proofs.lines.whole_line.Goals as goal

pub returns-in-None-clause-cut : goal.returns-in-None-clause-cut
returns-in-None-clause-cut c = lines_last c.args.text.now c.requires (sym c.line_feed.ensures ∙ c.in-None.is)

pub returns-in-Some-clause-cut : goal.returns-in-Some-clause-cut
returns-in-Some-clause-cut c = rw take_rest (lines_first c.args.text.now c.in-Some.end (sym c.in-Some.ensures))
