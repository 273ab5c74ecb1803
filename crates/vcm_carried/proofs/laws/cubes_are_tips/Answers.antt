use Rattle.vcm_carried.proofs.Boxes.{cubes_are, points_are}
use Rattle.vcm_carried.proofs.laws.cubes_are_tips.Goals as goal

pub returns-clause-cubes : goal.returns-clause-cubes
returns-clause-cubes c = cubes_are

pub returns-clause-points : goal.returns-clause-points
returns-clause-points c = points_are
