use Rattle.vcm_image.proofs.Wholes.{code_again}
use Rattle.vcm_image.proofs.laws.written_is_read.Goals as goal

pub returns : goal.returns
returns c = code_again
