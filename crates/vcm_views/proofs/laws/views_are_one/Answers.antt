use Rattle.vcm_views.proofs.OneView.{one_views}
use Rattle.vcm_views.proofs.laws.views_are_one.Goals as goal

pub returns : goal.returns
returns c = one_views
