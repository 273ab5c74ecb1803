use Rattle.vcm_picture.proofs.Apart.{names_apart}
use Rattle.vcm_picture.proofs.laws.names_are_apart.Goals as goal

pub returns : goal.returns
returns c = names_apart
