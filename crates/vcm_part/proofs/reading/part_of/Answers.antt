use Rattle.std.proofs.Common.{rules}
use Rattle.vcm_part.proofs.reading.part_of.Goals as goal

pub returns-then-is_memory : goal.returns-then-is_memory
returns-then-is_memory c = search rules
