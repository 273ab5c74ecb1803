use Rattle.std.proofs.Common.{rules}
use Rattle.vcm_part.proofs.reading.blocks_at.Goals as goal

pub blocks_of-requires-2 : goal.blocks_of-requires-2
blocks_of-requires-2 c = search rules
