use Rattle.std.proofs.Common.{ap, ◌∙◌}
use Rattle.vcm_code.specs.Words.{word_of, word_byte}
use Rattle.vcm_code.proofs.Copies.{same_op}
use Rattle.vcm_image.proofs.bytes.word_byte.Goals as goal

pub returns : goal.returns
returns c = c.byte.ensures ∙ ap word_byte (c.word.ensures (λ e. e) (λ t. t) (λ b. b) ∙ ap word_of (same_op c.args.op.now))
