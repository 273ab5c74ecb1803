use Rattle.std.proofs.Common.{rules, w64, FitsSigned, to_z-of_z, slice_index_or, pos, ◌-ℤ◌, ap, ◌∙◌}
use Rattle.std.specs.Int.{int_div_euclid}
use Rattle.vcm_num.specs.Point.{coordinate}
use Rattle.vcm_motion.proofs.Inside.{reachable}
use Rattle.vcm_picture.proofs.Signed.{near_border, border_again, spot_same}
use Rattle.vcm_picture.proofs.view.near_spot.Goals as goal

pub offset-requires-clause-number : goal.offset-requires-clause-number
offset-requires-clause-number c = border_again _ (near_border _ (reachable c.args.at c.requires c.right_axis.result c.right_axis.ensures.below))

pub offset-requires-2-clause-from : goal.offset-requires-2-clause-from
offset-requires-2-clause-from c = border_again _ (near_border _ (reachable c.args.at c.requires c.up_axis.result c.up_axis.ensures.below))

pub returns : goal.returns
returns c =
    let s = c.scope.inside in
    let fr : FitsSigned w64 c.offset.result = search rules in
    let fs : FitsSigned w64 c.offset-2.result = search rules in
    let fx : FitsSigned w64 (slice_index_or c.args.at.0 c.right_axis.result (pos 0)) = search rules in
    let fy : FitsSigned w64 (slice_index_or c.args.at.0 c.up_axis.result (pos 0)) = search rules in
    let fl : FitsSigned w64 s.left = search rules in
    let ft : FitsSigned w64 s.top = search rules in
    let e = simp to_z-of_z at c.new.ensures in
    let p = simp to_z-of_z at c.offset.ensures.value in
    let q = simp to_z-of_z at c.offset-2.ensures.value in
    rw (← c.scope.view_is) (e ∙ spot_same _ _ _ _ (p ∙ ap (λ k. int_div_euclid (coordinate c.args.at k -ℤ s.left) s.grain) c.right_axis.ensures.axis)
    (q ∙ ap (λ k. int_div_euclid (s.top -ℤ coordinate c.args.at k) s.grain) c.up_axis.ensures.axis))
