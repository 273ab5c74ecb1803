use Rattle.vcm_cover.proofs.Rooms.{hollow}
use Rattle.vcm_cover.proofs.laws.cover_examples.Goals as goal

pub returns-clause-room_is_hollow : goal.returns-clause-room_is_hollow
returns-clause-room_is_hollow c = hollow
