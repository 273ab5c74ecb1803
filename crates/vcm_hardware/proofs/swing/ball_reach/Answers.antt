use Rattle.std.proofs.Common.{◌≡◌, ◌+ℤ◌, ◌-ℤ◌, rules, w32, FitsSigned, to_z-of_z}
use mir.Syntax.{w128}
use Rattle.vcm_hardware.proofs.Reaches.{ball_is}
use Rattle.vcm_hardware.proofs.Farther.{far_sum, wide_sum, high_sum, low_sum, sum_fits, ball_small}
use Rattle.vcm_hardware.proofs.swing.ball_reach.Goals as goal

pub overflow_add-result : goal.overflow_add-result
overflow_add-result c =
    let b = c.args.ball.now in
    let f1 : FitsSigned w32 c.args.ball.now.diameter = search rules in
    let f2 : FitsSigned w32 c.args.ball.now.at.x = search rules in
    let f3 : FitsSigned w32 c.args.ball.now.at.y = search rules in
    let f4 : FitsSigned w32 c.args.ball.now.at.z = search rules in
    let fr : FitsSigned w128 c.radius_of-radius.result = search rules in
    let fx : FitsSigned w128 c.from-x.result = search rules in
    let fy : FitsSigned w128 c.from-y.result = search rules in
    let fz : FitsSigned w128 c.from-z.result = search rules in
    let ex : c.from-x.result ≡ b.at.x = search rules in
    let ey : c.from-y.result ≡ b.at.y = search rules in
    let ez : c.from-z.result ≡ b.at.z = search rules in
    let gx : FitsSigned w32 c.from-x.result = rw ex f2 in
    let gy : FitsSigned w32 c.from-y.result = rw ey f3 in
    let gz : FitsSigned w32 c.from-z.result = rw ez f4 in
    let hr = c.radius_of-radius.ensures.small in
    let fd : FitsSigned w128 c.distance.result = search rules in
    let hd = simp to_z-of_z at c.distance.ensures.small in
    simp to_z-of_z (sum_fits (c.distance.result +ℤ c.radius_of-radius.result) (far_sum c.distance.result c.from-x.result c.from-y.result c.from-z.result c.radius_of-radius.result gx gy gz hd hr))

pub overflow_add-result-2 : goal.overflow_add-result-2
overflow_add-result-2 c =
    let b = c.args.ball.now in
    let f1 : FitsSigned w32 c.args.ball.now.diameter = search rules in
    let f2 : FitsSigned w32 c.args.ball.now.at.x = search rules in
    let f3 : FitsSigned w32 c.args.ball.now.at.y = search rules in
    let f4 : FitsSigned w32 c.args.ball.now.at.z = search rules in
    let fr : FitsSigned w128 c.radius_of-radius.result = search rules in
    let fx : FitsSigned w128 c.from-x.result = search rules in
    let fy : FitsSigned w128 c.from-y.result = search rules in
    let fz : FitsSigned w128 c.from-z.result = search rules in
    let ex : c.from-x.result ≡ b.at.x = search rules in
    let ey : c.from-y.result ≡ b.at.y = search rules in
    let ez : c.from-z.result ≡ b.at.z = search rules in
    let gx : FitsSigned w32 c.from-x.result = rw ex f2 in
    let gy : FitsSigned w32 c.from-y.result = rw ey f3 in
    let gz : FitsSigned w32 c.from-z.result = rw ez f4 in
    let hr = c.radius_of-radius.ensures.small in
    let fw : FitsSigned w128 c.diagonal.result = search rules in
    let hw = simp to_z-of_z at c.diagonal.ensures.small in
    simp to_z-of_z (sum_fits (c.diagonal.result +ℤ c.radius_of-radius.result) (wide_sum c.diagonal.result c.from-x.result c.from-y.result c.radius_of-radius.result gx gy hw hr))

pub overflow_add-result-3 : goal.overflow_add-result-3
overflow_add-result-3 c =
    let b = c.args.ball.now in
    let f1 : FitsSigned w32 c.args.ball.now.diameter = search rules in
    let f2 : FitsSigned w32 c.args.ball.now.at.x = search rules in
    let f3 : FitsSigned w32 c.args.ball.now.at.y = search rules in
    let f4 : FitsSigned w32 c.args.ball.now.at.z = search rules in
    let fr : FitsSigned w128 c.radius_of-radius.result = search rules in
    let fx : FitsSigned w128 c.from-x.result = search rules in
    let fy : FitsSigned w128 c.from-y.result = search rules in
    let fz : FitsSigned w128 c.from-z.result = search rules in
    let ex : c.from-x.result ≡ b.at.x = search rules in
    let ey : c.from-y.result ≡ b.at.y = search rules in
    let ez : c.from-z.result ≡ b.at.z = search rules in
    let gx : FitsSigned w32 c.from-x.result = rw ex f2 in
    let gy : FitsSigned w32 c.from-y.result = rw ey f3 in
    let gz : FitsSigned w32 c.from-z.result = rw ez f4 in
    let hr = c.radius_of-radius.ensures.small in
    simp to_z-of_z (sum_fits (c.from-z.result +ℤ c.radius_of-radius.result) (high_sum c.from-z.result c.radius_of-radius.result gz hr))

pub overflow_sub-result : goal.overflow_sub-result
overflow_sub-result c =
    let b = c.args.ball.now in
    let f1 : FitsSigned w32 c.args.ball.now.diameter = search rules in
    let f2 : FitsSigned w32 c.args.ball.now.at.x = search rules in
    let f3 : FitsSigned w32 c.args.ball.now.at.y = search rules in
    let f4 : FitsSigned w32 c.args.ball.now.at.z = search rules in
    let fr : FitsSigned w128 c.radius_of-radius.result = search rules in
    let fx : FitsSigned w128 c.from-x.result = search rules in
    let fy : FitsSigned w128 c.from-y.result = search rules in
    let fz : FitsSigned w128 c.from-z.result = search rules in
    let ex : c.from-x.result ≡ b.at.x = search rules in
    let ey : c.from-y.result ≡ b.at.y = search rules in
    let ez : c.from-z.result ≡ b.at.z = search rules in
    let gx : FitsSigned w32 c.from-x.result = rw ex f2 in
    let gy : FitsSigned w32 c.from-y.result = rw ey f3 in
    let gz : FitsSigned w32 c.from-z.result = rw ez f4 in
    let hr = c.radius_of-radius.ensures.small in
    simp to_z-of_z (sum_fits (c.from-z.result -ℤ c.radius_of-radius.result) (low_sum c.from-z.result c.radius_of-radius.result gz hr))

pub returns-clause-value : goal.returns-clause-value
returns-clause-value c =
    let b = c.args.ball.now in
    let f1 : FitsSigned w32 c.args.ball.now.diameter = search rules in
    let f2 : FitsSigned w32 c.args.ball.now.at.x = search rules in
    let f3 : FitsSigned w32 c.args.ball.now.at.y = search rules in
    let f4 : FitsSigned w32 c.args.ball.now.at.z = search rules in
    let fr : FitsSigned w128 c.radius_of-radius.result = search rules in
    let fx : FitsSigned w128 c.from-x.result = search rules in
    let fy : FitsSigned w128 c.from-y.result = search rules in
    let fz : FitsSigned w128 c.from-z.result = search rules in
    let ex : c.from-x.result ≡ b.at.x = search rules in
    let ey : c.from-y.result ≡ b.at.y = search rules in
    let ez : c.from-z.result ≡ b.at.z = search rules in
    let gx : FitsSigned w32 c.from-x.result = rw ex f2 in
    let gy : FitsSigned w32 c.from-y.result = rw ey f3 in
    let gz : FitsSigned w32 c.from-z.result = rw ez f4 in
    let hr = c.radius_of-radius.ensures.small in
    let fd : FitsSigned w128 c.distance.result = search rules in
    let hd = simp to_z-of_z at c.distance.ensures.small in
    let fw : FitsSigned w128 c.diagonal.result = search rules in
    let hw = simp to_z-of_z at c.diagonal.ensures.small in
    let g1 : FitsSigned w128 (c.distance.result +ℤ c.radius_of-radius.result) = sum_fits (c.distance.result +ℤ c.radius_of-radius.result) (far_sum c.distance.result c.from-x.result c.from-y.result c.from-z.result c.radius_of-radius.result gx gy gz hd hr) in
    let g2 : FitsSigned w128 (c.diagonal.result +ℤ c.radius_of-radius.result) = sum_fits (c.diagonal.result +ℤ c.radius_of-radius.result) (wide_sum c.diagonal.result c.from-x.result c.from-y.result c.radius_of-radius.result gx gy hw hr) in
    let g3 : FitsSigned w128 (c.from-z.result +ℤ c.radius_of-radius.result) = sum_fits (c.from-z.result +ℤ c.radius_of-radius.result) (high_sum c.from-z.result c.radius_of-radius.result gz hr) in
    let g4 : FitsSigned w128 (c.from-z.result -ℤ c.radius_of-radius.result) = sum_fits (c.from-z.result -ℤ c.radius_of-radius.result) (low_sum c.from-z.result c.radius_of-radius.result gz hr) in
    let radius = simp to_z-of_z at c.radius_of-radius.ensures.value in
    let far = simp to_z-of_z at c.distance.ensures.value in
    let wide = simp to_z-of_z at c.diagonal.ensures.value in
    simp to_z-of_z (ball_is b c.radius_of-radius.result c.from-x.result c.from-y.result c.from-z.result c.distance.result c.diagonal.result ex ey ez radius far wide)

pub returns-clause-small : goal.returns-clause-small
returns-clause-small c =
    let b = c.args.ball.now in
    let f1 : FitsSigned w32 c.args.ball.now.diameter = search rules in
    let f2 : FitsSigned w32 c.args.ball.now.at.x = search rules in
    let f3 : FitsSigned w32 c.args.ball.now.at.y = search rules in
    let f4 : FitsSigned w32 c.args.ball.now.at.z = search rules in
    let fr : FitsSigned w128 c.radius_of-radius.result = search rules in
    let fx : FitsSigned w128 c.from-x.result = search rules in
    let fy : FitsSigned w128 c.from-y.result = search rules in
    let fz : FitsSigned w128 c.from-z.result = search rules in
    let ex : c.from-x.result ≡ b.at.x = search rules in
    let ey : c.from-y.result ≡ b.at.y = search rules in
    let ez : c.from-z.result ≡ b.at.z = search rules in
    let gx : FitsSigned w32 c.from-x.result = rw ex f2 in
    let gy : FitsSigned w32 c.from-y.result = rw ey f3 in
    let gz : FitsSigned w32 c.from-z.result = rw ez f4 in
    let hr = c.radius_of-radius.ensures.small in
    let fd : FitsSigned w128 c.distance.result = search rules in
    let hd = simp to_z-of_z at c.distance.ensures.small in
    let fw : FitsSigned w128 c.diagonal.result = search rules in
    let hw = simp to_z-of_z at c.diagonal.ensures.small in
    let g1 : FitsSigned w128 (c.distance.result +ℤ c.radius_of-radius.result) = sum_fits (c.distance.result +ℤ c.radius_of-radius.result) (far_sum c.distance.result c.from-x.result c.from-y.result c.from-z.result c.radius_of-radius.result gx gy gz hd hr) in
    let g2 : FitsSigned w128 (c.diagonal.result +ℤ c.radius_of-radius.result) = sum_fits (c.diagonal.result +ℤ c.radius_of-radius.result) (wide_sum c.diagonal.result c.from-x.result c.from-y.result c.radius_of-radius.result gx gy hw hr) in
    let g3 : FitsSigned w128 (c.from-z.result +ℤ c.radius_of-radius.result) = sum_fits (c.from-z.result +ℤ c.radius_of-radius.result) (high_sum c.from-z.result c.radius_of-radius.result gz hr) in
    let g4 : FitsSigned w128 (c.from-z.result -ℤ c.radius_of-radius.result) = sum_fits (c.from-z.result -ℤ c.radius_of-radius.result) (low_sum c.from-z.result c.radius_of-radius.result gz hr) in
    simp to_z-of_z (ball_small c.distance.result c.diagonal.result c.from-x.result c.from-y.result c.from-z.result c.radius_of-radius.result gx gy gz hd hw hr)
