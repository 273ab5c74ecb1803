-- The cube of a ball holds it as it is turned, and what stands still lies in its box.
use Rattle.std.proofs.Common.{◌≡◌, ℕ, ℤ, pos, ◌+◌, ◌*◌, ◌≤◌, ◌+ℤ◌, ◌-ℤ◌, ◌*ℤ◌, ◌≤ℤ◌, neg_ℤ, arith, ap, refl, subst, ◌∙◌}
use Rattle.std.specs.Prelude.{unsigned_abs}
use Rattle.std.proofs.Math.Nat.{mul-le-mul_left}
use Rattle.std.proofs.lemmas.Int.{ints, unsigned_abs-mul}
use Rattle.vcm_num.proofs.Ring.{mul-add, mul-add_three, mul-assoc}
use Rattle.vcm_hardware.specs.declared.interval.Interval.{Interval}
use Rattle.vcm_hardware.specs.declared.angle.Along.{Along}
use Rattle.vcm_hardware.specs.declared.angle.Along.TheVariants.{X, Y, Z}
use Rattle.vcm_hardware.specs.declared.angle.Turning.{Turning}
use Rattle.vcm_hardware.specs.declared.description.Place.{Place}
use Rattle.vcm_hardware.specs.declared.description.StillBox.{StillBox}
use Rattle.vcm_hardware.specs.declared.description.Ball.{Ball}
use Rattle.vcm_hardware.specs.Intervals.{floor_one, ceil_one, half_up}
use Rattle.vcm_hardware.specs.Turned.{coordinate_on, turned, turning_by}
use Rattle.vcm_hardware.specs.Boxes.{origin, ball_box, centre, head_box}
use Rattle.vcm_hardware.specs.Holding.{place_on, corner_on, over_axes, IsTurn, way_from, turned_place, LiesIn, IsAround, BallsAreHeld, IsInStill, still_place, StillBoxesAreHeld}
use Rattle.vcm_hardware.proofs.Roots.{exact_root}
use Rattle.vcm_hardware.proofs.Products.{mul-sub, mul-neg, swap, scaled_le}
use Rattle.vcm_hardware.proofs.Widths.{twice_product, halve, half_holds, ends_low, ends_high}
use Rattle.vcm_hardware.proofs.Turns.{squares_sum, whole_number, way_between, turned_in, floor_in, ceil_in}
use Rattle.vcm_hardware.proofs.Held.{point_is, same_row, on_axes}

-- ---- a ball

-- the square of what two ways have in common is at most the product of their squares
pub in_common : (u v w a b c : ℕ) → (u * a + v * b + w * c) * (u * a + v * b + w * c) ≤ (u * u + v * v + w * w) * (a * a + b * b + c * c)
in_common u v w a b c = omega (arith, twice_product (u * b) (v * a), twice_product (u * c) (w * a), twice_product (v * c) (w * b))

-- what a direction of length n measures on a way that is no longer than s * d / 2
ball_out : (u v w a b c n s d h : ℕ) → u * u + v * v + w * w ≡ n * n → 4 * (a * a + b * b + c * c) ≤ (s * d) * (s * d) → d ≤ 2 * h → u * a + v * b + w * c ≤ (s * n) * h
ball_out u v w a b c n s d h whole round half =
    let split : (u * a + v * b + w * c) * (u * a + v * b + w * c) ≤ (n * n) * (a * a + b * b + c * c) =
    subst (λ (k : ℕ). (u * a + v * b + w * c) * (u * a + v * b + w * c) ≤ k * (a * a + b * b + c * c)) whole (in_common u v w a b c) in
    let far : (n * n) * (4 * (a * a + b * b + c * c)) ≤ (n * n) * ((s * d) * (s * d)) = mul-le-mul_left (n * n) round in
    let end : (2 * (u * a + v * b + w * c)) * (2 * (u * a + v * b + w * c)) ≤ ((s * n) * d) * ((s * n) * d) =
    squares (u * a + v * b + w * c) (a * a + b * b + c * c) n s d split far in
    halve (s * n) h (u * a + v * b + w * c) ((s * n) * d) (exact_root (2 * (u * a + v * b + w * c)) ((s * n) * d) _ refl end) (mul-le-mul_left (s * n) half)
  where
    squares : (x q n s d : ℕ) → x * x ≤ (n * n) * q → (n * n) * (4 * q) ≤ (n * n) * ((s * d) * (s * d)) → (2 * x) * (2 * x) ≤ ((s * n) * d) * ((s * n) * d)
    squares x q n s d h k = omega (arith, h, k)

three_near : (x y z : ℤ) (k : ℕ) → unsigned_abs x + unsigned_abs y + unsigned_abs z ≤ k → (neg_ℤ (pos k) ≤ℤ (x +ℤ y +ℤ z)) × ((x +ℤ y +ℤ z) ≤ℤ pos k)
three_near x y z k h = (omega (arith, ints), omega (arith, ints))

-- the square of a way, as a natural number
pub round_number : (q : Along → ℤ) (m : ℤ) (s d : ℕ) → m ≡ pos d → (pos 4 *ℤ over_axes (λ i. q i *ℤ q i)) ≤ℤ ((pos s *ℤ m) *ℤ (pos s *ℤ m))
    → 4 * (unsigned_abs (q X) * unsigned_abs (q X) + unsigned_abs (q Y) * unsigned_abs (q Y) + unsigned_abs (q Z) * unsigned_abs (q Z)) ≤ (s * d) * (s * d)
round_number q m s d e h =
    by _ _ (subst (λ (z : ℤ). (pos 4 *ℤ z) ≤ℤ pos ((s * d) * (s * d))) (squares_sum q)
    (subst (λ (z : ℤ). (pos 4 *ℤ over_axes (λ i. q i *ℤ q i)) ≤ℤ ((pos s *ℤ z) *ℤ (pos s *ℤ z))) e h))
  where
    by : (x y : ℕ) → (pos 4 *ℤ pos x) ≤ℤ pos y → 4 * x ≤ y
    by x y h = omega (arith, ints, h)

-- a direction of length n measures at most this on a way from the centre of a ball to a point of it
module _ (n s d : ℕ) (u q : Along → ℤ) (one : over_axes (λ k. u k *ℤ u k) ≡ pos (n * n))
    (round : 4 * (unsigned_abs (q X) * unsigned_abs (q X) + unsigned_abs (q Y) * unsigned_abs (q Y) + unsigned_abs (q Z) * unsigned_abs (q Z)) ≤ (s * d) * (s * d)) where
  abbrev half : ℕ
  half = unsigned_abs (half_up (pos d))

  measured : unsigned_abs (u X *ℤ q X) + unsigned_abs (u Y *ℤ q Y) + unsigned_abs (u Z *ℤ q Z) ≤ (s * n) * half
  measured =
      rw (unsigned_abs-mul (u X) (q X), unsigned_abs-mul (u Y) (q Y), unsigned_abs-mul (u Z) (q Z))
      (ball_out (unsigned_abs (u X)) (unsigned_abs (u Y)) (unsigned_abs (u Z)) (unsigned_abs (q X)) (unsigned_abs (q Y)) (unsigned_abs (q Z)) n s d half
      (whole_number _ _ _ (squares_sum u) one) round (half_holds d).1)

  near_it : (neg_ℤ (pos ((s * n) * half)) ≤ℤ over_axes (λ k. u k *ℤ q k)) × (over_axes (λ k. u k *ℤ q k) ≤ℤ pos ((s * n) * half))
  near_it = three_near (u X *ℤ q X) (u Y *ℤ q Y) (u Z *ℤ q Z) ((s * n) * half) measured

module _ (t : Turning) (n : ℕ) (m : Along → Along → ℤ) (turn : IsTurn t n m) (ball : Ball) (d : ℕ) (tip : Place) (s : ℕ) (p : Along → ℤ) (around : IsAround ball s p)
    (round : ball.diameter ≡ pos d) where
  abbrev centre_on : Along → Interval
  centre_on i = coordinate_on (turned t ball.at tip) i

  on_axis : (i : Along) → ((pos (s * n) *ℤ (floor_one (centre_on i).low -ℤ half_up ball.diameter)) ≤ℤ turned_place m s tip p i)
      × (turned_place m s tip p i ≤ℤ (pos (s * n) *ℤ (ceil_one (centre_on i).high +ℤ half_up ball.diameter)))
  on_axis i =
      let u = λ (k : Along). m k i in
      let h = unsigned_abs (half_up (pos d)) in
      let size : half_up ball.diameter ≡ pos h = ap half_up round ∙ (half_holds d).0 in
      let there = over_axes (λ k. u k *ℤ way_between tip ball.at k) in
      let aside = over_axes (λ k. u k *ℤ way_from s ball.at p k) in
      let middle = turned_in t n m turn ball.at tip i in
      let low = floor_in n there (centre_on i).low middle.low in
      let high = ceil_in n there (centre_on i).high middle.high in
      let near = near_it n s d u (way_from s ball.at p) (turn.rows i i ∙ same_row n i) (round_number (way_from s ball.at p) ball.diameter s d round around.near) in
      let f = floor_one (centre_on i).low in
      let g = ceil_one (centre_on i).high in (
        rw (size, point_is s u p ball.at tip)
            (ends_low (pos (s * n) *ℤ (f -ℤ pos h)) (pos s *ℤ (pos n *ℤ f)) (pos ((s * n) * h)) (pos s *ℤ there) aside
            (mul-sub (pos (s * n)) f (pos h) ∙ ap (λ z. z -ℤ pos ((s * n) * h)) (mul-assoc (pos s) (pos n) f)) (scaled_le s (pos n *ℤ f) there low) near.0),
        rw (size, point_is s u p ball.at tip)
            (ends_high (pos (s * n) *ℤ (g +ℤ pos h)) (pos s *ℤ (pos n *ℤ g)) (pos ((s * n) * h)) (pos s *ℤ there) aside
            (mul-add (pos (s * n)) g (pos h) ∙ ap (λ z. z +ℤ pos ((s * n) * h)) (mul-assoc (pos s) (pos n) g)) (scaled_le s there (pos n *ℤ g) high) near.1),
      )

  pub ball_is_held : LiesIn (ball_box t tip ball) (s * n) (turned_place m s tip p)
  ball_is_held =
      let box = ball_box t tip ball in
      record {
        low = on_axes (λ i. (pos (s * n) *ℤ corner_on box.low i) ≤ℤ turned_place m s tip p i) (on_axis X).0 (on_axis Y).0 (on_axis Z).0;
        high = on_axes (λ i. turned_place m s tip p i ≤ℤ (pos (s * n) *ℤ corner_on box.high i)) (on_axis X).1 (on_axis Y).1 (on_axis Z).1;
      }

pub natural : (z : ℤ) → pos 0 ≤ℤ z → z ≡ pos (unsigned_abs z)
natural z h = omega (arith, ints)

pub balls_are_held : BallsAreHeld
balls_are_held a b tip ball some n m turn s p around = ball_is_held (turning_by a b) n m turn ball (unsigned_abs ball.diameter) tip s p around (natural ball.diameter some)

-- ---- what stands still

-- the way from a place to the turning centre is the place the other way
back_one : (s : ℕ) (u t : ℤ) → pos s *ℤ (u *ℤ (pos 0 -ℤ t)) ≡ neg_ℤ (u *ℤ (pos s *ℤ t))
back_one s u t = ap (λ z. pos s *ℤ z) (ap (λ z. u *ℤ z) (less_is t) ∙ mul-neg u t) ∙ mul-neg (pos s) (u *ℤ t) ∙ ap neg_ℤ (swap (pos s) u t)
  where
    less_is : (t : ℤ) → pos 0 -ℤ t ≡ neg_ℤ t
    less_is t = omega (arith, ints)

three_back : (a b c d e f s : ℤ) → s ≡ a +ℤ b +ℤ c → a ≡ neg_ℤ d → b ≡ neg_ℤ e → c ≡ neg_ℤ f → s ≡ neg_ℤ (d +ℤ e +ℤ f)
three_back a b c d e f s es ea eb ec = omega (arith, ints)

pub back_is : (s : ℕ) (u : Along → ℤ) (tip : Place) → pos s *ℤ over_axes (λ k. u k *ℤ way_between tip origin k) ≡ neg_ℤ (over_axes (λ k. u k *ℤ (pos s *ℤ place_on tip k)))
back_is s u tip =
    three_back _ _ _ _ _ _ _ (mul-add_three (pos s) (u X *ℤ (pos 0 -ℤ tip.x)) (u Y *ℤ (pos 0 -ℤ tip.y)) (u Z *ℤ (pos 0 -ℤ tip.z)))
    (back_one s (u X) tip.x) (back_one s (u Y) tip.y) (back_one s (u Z) tip.z)

module _ (t : Turning) (n : ℕ) (m : Along → Along → ℤ) (turn : IsTurn t n m) (still : StillBox) (tip : Place) (s : ℕ) (p : Along → ℤ) (inside : IsInStill still s p) where
  abbrev turned_centre : Along → Interval
  turned_centre i = coordinate_on (centre t tip) i

  lower : (x a b v w q : ℤ) → x ≡ a +ℤ b → v ≡ neg_ℤ w → a ≤ℤ v → b ≤ℤ q → x ≤ℤ (q -ℤ w)
  lower x a b v w q e f h k = omega (arith, ints)

  upper : (x a b v w q : ℤ) → x ≡ a +ℤ b → v ≡ neg_ℤ w → v ≤ℤ a → q ≤ℤ b → (q -ℤ w) ≤ℤ x
  upper x a b v w q e f h k = omega (arith, ints)

  split : (f l : ℤ) → pos (s * n) *ℤ (f +ℤ l) ≡ pos s *ℤ (pos n *ℤ f) +ℤ pos n *ℤ (pos s *ℤ l)
  split f l =
      mul-add (pos (s * n)) f l ∙ ap (λ z. z +ℤ pos (s * n) *ℤ l) (mul-assoc (pos s) (pos n) f)
      ∙ ap (λ z. pos s *ℤ (pos n *ℤ f) +ℤ z) (mul-assoc (pos s) (pos n) l ∙ swap (pos s) (pos n) l)

  still_on : (i : Along) → ((pos (s * n) *ℤ (floor_one (turned_centre i).low +ℤ place_on still.low i)) ≤ℤ still_place m n s tip p i)
      × (still_place m n s tip p i ≤ℤ (pos (s * n) *ℤ (ceil_one (turned_centre i).high +ℤ place_on still.high i)))
  still_on i =
      let u = λ (k : Along). m k i in
      let there = over_axes (λ k. u k *ℤ way_between tip origin k) in
      let middle = turned_in t n m turn origin tip i in
      let f = floor_one (turned_centre i).low in
      let g = ceil_one (turned_centre i).high in
      let low = floor_in n there (turned_centre i).low middle.low in
      let high = ceil_in n there (turned_centre i).high middle.high in (
        lower _ (pos s *ℤ (pos n *ℤ f)) (pos n *ℤ (pos s *ℤ place_on still.low i)) (pos s *ℤ there) _ (pos n *ℤ p i) (split f (place_on still.low i)) (back_is s u tip)
            (scaled_le s (pos n *ℤ f) there low) (scaled_le n (pos s *ℤ place_on still.low i) (p i) (inside.low i)),
        upper _ (pos s *ℤ (pos n *ℤ g)) (pos n *ℤ (pos s *ℤ place_on still.high i)) (pos s *ℤ there) _ (pos n *ℤ p i) (split g (place_on still.high i)) (back_is s u tip)
            (scaled_le s there (pos n *ℤ g) high) (scaled_le n (p i) (pos s *ℤ place_on still.high i) (inside.high i)),
      )

  pub still_is_held : LiesIn (head_box (centre t tip) still) (s * n) (still_place m n s tip p)
  still_is_held =
      let box = head_box (centre t tip) still in
      record {
        low = on_axes (λ i. (pos (s * n) *ℤ corner_on box.low i) ≤ℤ still_place m n s tip p i) (still_on X).0 (still_on Y).0 (still_on Z).0;
        high = on_axes (λ i. still_place m n s tip p i ≤ℤ (pos (s * n) *ℤ corner_on box.high i)) (still_on X).1 (still_on Y).1 (still_on Z).1;
      }

pub still_boxes_are_held : StillBoxesAreHeld
still_boxes_are_held a b tip still n m turn s p inside = still_is_held (turning_by a b) n m turn still tip s p inside
