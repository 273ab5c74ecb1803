-- Points near 0: within the limits, and on the way to another.
use Rattle.std.proofs.Common.{◌≡◌, ℕ, ◌<◌, ◌≤◌, ℤ, pos, negsuc, true, arith}
use Rattle.std.proofs.lemmas.Bool.{and_parts, and_from}
use Rattle.std.proofs.lemmas.Int.{ints}
use Rattle.vcm_num.specs.declared.point.Point.{Point}
use Rattle.vcm_num.specs.declared.axis.Axis.{Axis}
use Rattle.vcm_num.specs.Point.{coordinate, is_below, is_near_zero, is_near, IsNear, IsReachable}
use Rattle.vcm_num.specs.Axis.{along}
use Rattle.vcm_spec.specs.Workpiece.{Workpiece, IsValid, is_within}
use Rattle.vcm_spec.specs.Outcome.{point_of}
use Rattle.vcm_spec.proofs.Entries.{true_le, below_three}
use Rattle.vcm_motion.proofs.Inside.{reachable, below_each}
use Rattle.vcm_probe.proofs.WayBack.{one_between, way_between}

near_true : (z : ℤ) → IsNear z → is_near_zero z ≡ true
near_true z h = and_from _ _ (true_le _ _ h.from_below) (true_le _ _ h.from_above)

place_near : (x : ℕ → ℤ) → ((k : ℕ) → k < 3 → IsNear (x k)) → is_near (point_of x) ≡ true
place_near x h = and_from _ _ (and_from _ _ (near_true _ (h 0 (omega arith))) (near_true _ (h 1 (omega arith)))) (near_true _ (h 2 (omega arith)))

near_place : (x : ℕ → ℤ) → is_near (point_of x) ≡ true → (k : ℕ) → k < 3 → IsNear (x k)
near_place x h =
    let each = reachable (point_of x) h in
    below_three (λ k. IsNear (x k)) (each 0 (omega arith)) (each 1 (omega arith)) (each 2 (omega arith))

-- a point between two that are near
near_between : (p low high : Point) → IsReachable low → IsReachable high → is_below (coordinate low) (coordinate p) ≡ true → is_below (coordinate p) (coordinate high) ≡ true → is_near p ≡ true
near_between p low high nl nh bl bh = place_near (coordinate p) (λ k l.
    let a = nl k l in
    let b = nh k l in
    let c = below_each (coordinate low) (coordinate p) bl k l in
    let d = below_each (coordinate p) (coordinate high) bh k l in
    record { from_below = (let e = a.from_below in omega (arith, ints)); from_above = (let e = b.from_above in omega (arith, ints)) })

pub within_is_near : (part : Workpiece) → IsValid part → (p : Point) → is_within part.bounds (coordinate p) ≡ true → is_near p ≡ true
within_is_near part valid p within =
    let w = and_parts _ _ within in
    near_between p part.bounds.low part.bounds.high (reachable part.bounds.low valid.low) (reachable part.bounds.high valid.high) w.0 w.1

pub end_is_near : (part : Workpiece) → IsValid part → (p q : Point) → p ≡ q → is_within part.bounds (coordinate p) ≡ true → is_near q ≡ true
end_is_near part valid p q e within = rw (← e) (within_is_near part valid p within)

-- one step on the way from a point to another
pub next_is_near : (p : Point) (d : Axis) (n : ℕ) → 1 ≤ n → is_near p ≡ true → is_near (point_of (along (coordinate p) d n)) ≡ true → is_near (point_of (along (coordinate p) d 1)) ≡ true
next_is_near p d n hn start end = place_near (along (coordinate p) d 1) (λ k l.
    let a = reachable p start k l in
    let b = near_place (along (coordinate p) d n) end k l in
    let s = one_between (coordinate p) d n k (negsuc 999999999) (pos 1000000000) hn (record { from_low = a.from_below; to_high = a.from_above })
    (record { from_low = b.from_below; to_high = b.from_above }) in
    record { from_below = s.from_low; from_above = s.to_high })

-- a place on the way from a point to another
pub way_is_near : (p : Point) (d : Axis) (t n : ℕ) → t ≤ n → is_near p ≡ true → is_near (point_of (along (coordinate p) d n)) ≡ true → is_near (point_of (along (coordinate p) d t)) ≡ true
way_is_near p d t n le start end = place_near (along (coordinate p) d t) (λ k l.
    let a = reachable p start k l in
    let b = near_place (along (coordinate p) d n) end k l in
    let s = way_between (coordinate p) d t n k (negsuc 999999999) (pos 1000000000) le (record { from_low = a.from_below; to_high = a.from_above })
    (record { from_low = b.from_below; to_high = b.from_above }) in
    record { from_below = s.from_low; from_above = s.to_high })
