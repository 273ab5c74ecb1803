use Rattle.vcm_image.proofs.ImageLaws.{one_image}
use Rattle.vcm_image.proofs.laws.codes_have_one_image.Goals as goal

pub returns : goal.returns
returns c = one_image
