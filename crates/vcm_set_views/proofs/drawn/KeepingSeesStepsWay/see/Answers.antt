use Rattle.std.proofs.Common.{refl}
use Rattle.vcm_way.specs.Ways.{most_pieces}
use Rattle.vcm_set_views.proofs.drawn.KeepingSeesStepsWay.see.Goals as goal

pub add_step-requires : goal.add_step-requires
unfolding most_pieces
add_step-requires c = refl
