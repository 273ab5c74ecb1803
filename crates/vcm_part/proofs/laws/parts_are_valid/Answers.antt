use Rattle.vcm_part.proofs.Valid.{part_valid}
use Rattle.vcm_part.proofs.laws.parts_are_valid.Goals as goal

pub returns : goal.returns
returns c = part_valid
