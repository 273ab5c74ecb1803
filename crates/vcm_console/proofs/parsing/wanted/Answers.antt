use Rattle.std.proofs.Common.{◌==◌, not}
use Rattle.std.proofs.lemmas.List.Sums.{prefix_len-le-length}
use Rattle.vcm_console.proofs.parsing.wanted.Goals as goal

pub split_at-requires : goal.split_at-requires
split_at-requires c = rw c.name_len.ensures (prefix_len-le-length (λ b. not (b == 35)) c.args.word.now)
