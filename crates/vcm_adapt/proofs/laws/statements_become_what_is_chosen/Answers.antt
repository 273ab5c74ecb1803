use Rattle.vcm_adapt.proofs.Choosing.{texts_edited}
use Rattle.vcm_adapt.proofs.laws.statements_become_what_is_chosen.Goals as goal

pub returns : goal.returns
returns c = texts_edited
