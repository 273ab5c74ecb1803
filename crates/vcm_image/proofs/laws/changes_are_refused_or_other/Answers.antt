use Rattle.vcm_image.proofs.ImageLaws.{changed}
use Rattle.vcm_image.proofs.laws.changes_are_refused_or_other.Goals as goal

pub returns : goal.returns
returns c = changed
