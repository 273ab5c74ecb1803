use Rattle.std.proofs.Common.{eqb, sym, ◌∙◌}
use Rattle.vcm_lines.proofs.WordLemmas.{run_found, run_whole}
use Rattle.vcm_lines.proofs.words.unquoted_len.Goals as goal

pub returns-in-Some-clause-value : goal.returns-in-Some-clause-value
returns-in-Some-clause-value c = run_found (λ b. eqb b 39) c.args.text.now c.in-Some.len (sym c.apostrophe.ensures ∙ c.in-Some.is)

pub returns-in-None-clause-value : goal.returns-in-None-clause-value
returns-in-None-clause-value c = run_whole (λ b. eqb b 39) c.args.text.now (sym c.apostrophe.ensures ∙ c.in-None.is)
