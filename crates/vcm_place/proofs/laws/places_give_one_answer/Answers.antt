use Rattle.vcm_place.proofs.Same.{same_placed}
use Rattle.vcm_place.proofs.laws.places_give_one_answer.Goals as goal

pub returns : goal.returns
returns c = same_placed
