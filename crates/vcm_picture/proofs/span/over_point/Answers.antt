use Rattle.std.proofs.Common.{rules, w64, FitsSigned, to_z-of_z, slice_index_or, pos}
use Rattle.vcm_num.proofs.PointLemmas.{near_again}
use Rattle.vcm_motion.proofs.Inside.{reachable}
use Rattle.vcm_picture.proofs.span.over_point.Goals as goal

pub widened-requires : goal.widened-requires
widened-requires c = record { coordinate = near_again _ (reachable c.args.at c.requires.at c.args.axis c.requires.axis) }

pub returns : goal.returns
returns c =
    let f : FitsSigned w64 (slice_index_or c.args.at.0 c.args.axis (pos 0)) = search rules in
    simp to_z-of_z at c.widened.ensures
