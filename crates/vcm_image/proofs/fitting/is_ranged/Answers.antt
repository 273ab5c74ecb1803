use Rattle.std.proofs.Common.{rules}
use Rattle.vcm_image.proofs.fitting.is_ranged.Goals as goal

pub returns-in-Pair-clause-range : goal.returns-in-Pair-clause-range
returns-in-Pair-clause-range c = search rules
