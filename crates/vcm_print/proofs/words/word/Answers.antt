use Rattle.std.proofs.Common.{ap, ◌∙◌}
use Rattle.vcm_code.specs.Words.{word_of, word_text}
use Rattle.vcm_code.proofs.Copies.{same_op}
use Rattle.vcm_print.proofs.words.word.Goals as goal

pub returns : goal.returns
returns c = c.text.ensures ∙ ap word_text (c.word.ensures (λ e. e) (λ t. t) (λ b. b) ∙ ap word_of (same_op c.args.op.now))
