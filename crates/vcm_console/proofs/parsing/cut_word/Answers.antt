use Rattle.std.proofs.Common.{◌==◌, not}
use Rattle.std.proofs.lemmas.List.Sums.{prefix_len-le-length}
use Rattle.vcm_console.proofs.parsing.cut_word.Goals as goal

pub split_at-requires : goal.split_at-requires
split_at-requires c = rw c.blanks.ensures (prefix_len-le-length (λ b. b == 32) c.args.bytes.now)

pub split_at-requires-2 : goal.split_at-requires-2
split_at-requires-2 c = rw c.word_len.ensures (prefix_len-le-length (λ b. not (b == 32)) c.split_at.result.1.now)
