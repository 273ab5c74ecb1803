use Rattle.vcm_spec.proofs.Tips.{points_meet, points_lie, points_touch}
use Rattle.vcm_spec.proofs.laws.tips_of_no_width_are_points.Goals as goal

pub returns-clause-moving : goal.returns-clause-moving
returns-clause-moving c = points_meet

pub returns-clause-resting : goal.returns-clause-resting
returns-clause-resting c = points_lie

pub returns-clause-touching : goal.returns-clause-touching
returns-clause-touching c = points_touch
