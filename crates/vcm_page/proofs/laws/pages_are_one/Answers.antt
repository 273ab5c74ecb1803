use Rattle.vcm_page.proofs.PageViews.{one_page}
use Rattle.vcm_page.proofs.laws.pages_are_one.Goals as goal

pub returns : goal.returns
returns c = one_page
