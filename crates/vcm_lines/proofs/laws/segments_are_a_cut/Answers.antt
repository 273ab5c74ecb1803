use Rattle.vcm_lines.proofs.SegmentLaw.{segments_spelled, segments_are}
use Rattle.vcm_lines.proofs.laws.segments_are_a_cut.Goals as goal

pub returns-clause-spelled : goal.returns-clause-spelled
returns-clause-spelled c = segments_spelled

pub returns-clause-segments : goal.returns-clause-segments
returns-clause-segments c = segments_are
