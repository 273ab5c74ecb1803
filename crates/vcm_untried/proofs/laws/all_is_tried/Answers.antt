use Rattle.vcm_untried.proofs.Tried.{all_is_tried}
use Rattle.vcm_untried.proofs.laws.all_is_tried.Goals as goal

pub returns : goal.returns
returns c = all_is_tried
