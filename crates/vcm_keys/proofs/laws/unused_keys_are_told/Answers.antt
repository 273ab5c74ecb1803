use Rattle.vcm_keys.proofs.Same.{told_sound, told_complete}
use Rattle.vcm_keys.proofs.laws.unused_keys_are_told.Goals as goal

pub returns-clause-sound : goal.returns-clause-sound
returns-clause-sound c = told_sound

pub returns-clause-complete : goal.returns-clause-complete
returns-clause-complete c = told_complete
