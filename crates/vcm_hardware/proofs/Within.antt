-- Each point of what turns lies within its reach.
use Rattle.std.proofs.Common.{◌≡◌, ℕ, ℤ, pos, zero, suc, ◌+◌, ◌*◌, ◌^◌, ◌<◌, ◌≤◌, ◌+ℤ◌, ◌-ℤ◌, ◌*ℤ◌, ◌≤ℤ◌, neg_ℤ, List, [], ◌∷◌, arith, ap, refl, sym, subst, ◌∙◌}
use Rattle.std.specs.Prelude.{unsigned_abs, Contains}
use Rattle.std.specs.Int.{int_min, int_max}
use Rattle.std.specs.List.{AllByRecursion}
use Rattle.std.proofs.Math.Nat.{mul-le-mul_left}
use Rattle.std.proofs.lemmas.Int.{ints, clamps, unsigned_abs-mul}
use Rattle.vcm_num.proofs.Ring.{mul-add}
use Rattle.vcm_hardware.specs.declared.angle.Along.{Along}
use Rattle.vcm_hardware.specs.declared.angle.Along.TheVariants.{X, Y, Z}
use Rattle.vcm_hardware.specs.declared.description.Place.{Place}
use Rattle.vcm_hardware.specs.declared.description.Cylinder.{Cylinder}
use Rattle.vcm_hardware.specs.declared.description.Ball.{Ball}
use Rattle.vcm_hardware.specs.declared.swing.Reach.{Reach}
use Rattle.vcm_hardware.specs.Intervals.{half_up, root_up, root_down}
use Rattle.vcm_hardware.specs.Slabs.{axis_between}
use Rattle.vcm_hardware.specs.Swings.{diagonal, farther, reach_along, cylinder_reach, ball_reach, farther_of, no_reach, cylinders_reach, balls_reach, whole_reach}
use Rattle.vcm_hardware.specs.Holding.{place_on, way_from, IsAbout, IsAround}
use Rattle.vcm_hardware.proofs.Floors.{square_is}
use Rattle.vcm_hardware.proofs.Roots.{square_le}
use Rattle.vcm_hardware.proofs.Products.{mul-sub, mul-neg, scaled_le, trans, max_left, max_right, min_left, min_right}
use Rattle.vcm_hardware.proofs.Widths.{root_is, half_holds}
use Rattle.vcm_hardware.proofs.Held.{near_number, under_root}
use Rattle.vcm_hardware.proofs.Balls.{round_number, natural}
use Rattle.vcm_hardware.proofs.Distances.{root_le, both_far, all_far, across_of, across_holds, across_small, across_first, across_second, rounded_small}

-- the square of how far a place lies off the turning centre
abbrev pub square_off : (Along → ℤ) → ℕ
square_off p = unsigned_abs (p X) * unsigned_abs (p X) + unsigned_abs (p Y) * unsigned_abs (p Y) + unsigned_abs (p Z) * unsigned_abs (p Z)

-- a place, counted in s-ths, lies within a reach
pub record IsReachedBy (all : Reach) (s : ℕ) (p : Along → ℤ) : Type 0 where
  pub far : square_off p ≤ (s * unsigned_abs all.far) * (s * unsigned_abs all.far)
  pub wide : pos (unsigned_abs (p Y)) ≤ℤ (pos s *ℤ all.wide)
  pub high : p Z ≤ℤ (pos s *ℤ all.high)
  pub low : (pos s *ℤ all.low) ≤ℤ p Z

-- a reach is no less than 0, and at most ten metres
pub record IsModest (all : Reach) : Type 0 where
  pub some : pos 0 ≤ℤ all.far
  pub most : all.far ≤ℤ pos 10000000

-- one that goes on from the turning centre
pub record IsOutward (all : Reach) : Type 0 where
  pub far : IsModest all
  pub high : pos 0 ≤ℤ all.high
  pub low : all.low ≤ℤ pos 0

-- what is said of a description: each place is at most a metre off on each axis, and so is each diameter
pub record IsClosePlace (p : Place) : Type 0 where
  pub x : unsigned_abs p.x ≤ 1000000
  pub y : unsigned_abs p.y ≤ 1000000
  pub z : unsigned_abs p.z ≤ 1000000

pub record IsClosePart (c : Cylinder) : Type 0 where
  pub from : IsClosePlace c.from
  pub to : IsClosePlace c.to
  pub some : pos 0 ≤ℤ c.diameter
  pub most : c.diameter ≤ℤ pos 1000000

pub record IsCloseBall (b : Ball) : Type 0 where
  pub place : IsClosePlace b.at
  pub some : pos 0 ≤ℤ b.diameter
  pub most : b.diameter ≤ℤ pos 1000000

-- ---- the farther of two reaches

module _ (a b : Reach) where
  modest_of : IsModest a → IsModest b → IsModest (farther_of a b)
  modest_of h k = record { some = max_some a.far b.far h.some; most = max_most a.far b.far h.most k.most }
    where
      max_some : (x y : ℤ) → pos 0 ≤ℤ x → pos 0 ≤ℤ int_max x y
      max_some x y h = omega (arith, ints, clamps)

      max_most : (x y : ℤ) → x ≤ℤ pos 10000000 → y ≤ℤ pos 10000000 → int_max x y ≤ℤ pos 10000000
      max_most x y h k = omega (arith, ints, clamps)

  pub outward_of : IsOutward a → IsModest b → IsOutward (farther_of a b)
  outward_of h k = record {
    far = modest_of h.far k;
    high = trans (pos 0) a.high (int_max a.high b.high) h.high (max_left a.high b.high);
    low = trans (int_min a.low b.low) a.low (pos 0) (min_left a.low b.low) h.low;
  }

  farther_size : (s x y n : ℕ) → x ≤ y → n ≤ (s * x) * (s * x) → n ≤ (s * y) * (s * y)
  farther_size s x y n h k = omega (arith, k, square_le (s * x) (s * y) (mul-le-mul_left s h))

  first_size : (x y : ℤ) → pos 0 ≤ℤ x → unsigned_abs x ≤ unsigned_abs (int_max x y)
  first_size x y h = omega (arith, ints, clamps)

  second_size : (x y : ℤ) → pos 0 ≤ℤ y → unsigned_abs y ≤ unsigned_abs (int_max x y)
  second_size x y h = omega (arith, ints, clamps)

  pub reached_first : (s : ℕ) (p : Along → ℤ) → IsModest a → IsReachedBy a s p → IsReachedBy (farther_of a b) s p
  reached_first s p h k = record {
    far = farther_size s (unsigned_abs a.far) (unsigned_abs (int_max a.far b.far)) (square_off p) (first_size a.far b.far h.some) k.far;
    wide = trans _ _ _ k.wide (scaled_le s a.wide (int_max a.wide b.wide) (max_left a.wide b.wide));
    high = trans _ _ _ k.high (scaled_le s a.high (int_max a.high b.high) (max_left a.high b.high));
    low = trans _ _ _ (scaled_le s (int_min a.low b.low) a.low (min_left a.low b.low)) k.low;
  }

  pub reached_second : (s : ℕ) (p : Along → ℤ) → IsModest b → IsReachedBy b s p → IsReachedBy (farther_of a b) s p
  reached_second s p h k = record {
    far = farther_size s (unsigned_abs b.far) (unsigned_abs (int_max a.far b.far)) (square_off p) (second_size a.far b.far h.some) k.far;
    wide = trans _ _ _ k.wide (scaled_le s b.wide (int_max a.wide b.wide) (max_right a.wide b.wide));
    high = trans _ _ _ k.high (scaled_le s b.high (int_max a.high b.high) (max_right a.high b.high));
    low = trans _ _ _ (scaled_le s (int_min a.low b.low) b.low (min_right a.low b.low)) k.low;
  }

-- ---- what lies near a place, on one axis

le_pos : (a b : ℕ) → a ≤ b → pos a ≤ℤ pos b
le_pos a b h = omega (arith, ints, h)

-- along the axis of a part
on_way : (s : ℕ) (f t p : ℤ) → (pos s *ℤ int_min f t) ≤ℤ p → p ≤ℤ (pos s *ℤ int_max f t) → unsigned_abs p ≤ s * unsigned_abs (farther f t)
on_way s f t p low high =
    let k = unsigned_abs (farther f t) in
    let over = trans p _ (pos (s * k)) high (scaled_le s (int_max f t) (pos k) (most f t)) in
    let under = trans (pos s *ℤ neg_ℤ (pos k)) _ p (scaled_le s (neg_ℤ (pos k)) (int_min f t) (least f t)) low in
    both p (s * k) over (subst (λ (z : ℤ). z ≤ℤ p) (mul-neg (pos s) (pos k)) under)
  where
    most : (f t : ℤ) → int_max f t ≤ℤ pos (unsigned_abs (farther f t))
    most f t = omega (arith, ints, clamps)

    least : (f t : ℤ) → neg_ℤ (pos (unsigned_abs (farther f t))) ≤ℤ int_min f t
    least f t = omega (arith, ints, clamps)

    both : (p : ℤ) (k : ℕ) → p ≤ℤ pos k → neg_ℤ (pos k) ≤ℤ p → unsigned_abs p ≤ k
    both p k h i = omega (arith, ints)

-- beside it
off_way : (s k : ℕ) (f p : ℤ) → unsigned_abs f ≤ k → unsigned_abs p ≤ s * k + unsigned_abs (p -ℤ pos s *ℤ f)
off_way s k f p h = by p (pos s *ℤ f) (s * unsigned_abs f) (s * k) (unsigned_abs-mul (pos s) f) (mul-le-mul_left s h)
  where
    by : (p q : ℤ) (m n : ℕ) → unsigned_abs q ≡ m → m ≤ n → unsigned_abs p ≤ n + unsigned_abs (p -ℤ q)
    by p q m n e h = omega (arith, ints)

up_to : (s h : ℕ) (f t p : ℤ) → f ≤ℤ t → unsigned_abs (p -ℤ pos s *ℤ f) ≤ s * h → p ≤ℤ (pos s *ℤ (t +ℤ pos h))
up_to s h f t p le near = by p (pos s *ℤ f) (pos s *ℤ t) (s * h) _ (scaled_le s f t le) near (mul-add (pos s) t (pos h))
  where
    by : (p f t : ℤ) (k : ℕ) (x : ℤ) → f ≤ℤ t → unsigned_abs (p -ℤ f) ≤ k → x ≡ t +ℤ pos k → p ≤ℤ x
    by p f t k x h n e = omega (arith, ints)

down_to : (s h : ℕ) (f b p : ℤ) → b ≤ℤ f → unsigned_abs (p -ℤ pos s *ℤ f) ≤ s * h → (pos s *ℤ (b -ℤ pos h)) ≤ℤ p
down_to s h f b p le near = by p (pos s *ℤ f) (pos s *ℤ b) (s * h) _ (scaled_le s b f le) near (mul-sub (pos s) b (pos h))
  where
    by : (p f b : ℤ) (k : ℕ) (x : ℤ) → b ≤ℤ f → unsigned_abs (p -ℤ f) ≤ k → x ≡ b -ℤ pos k → x ≤ℤ p
    by p f b k x h n e = omega (arith, ints)

-- half a diameter, up
half_round : (n s d : ℕ) → 4 * n ≤ (s * d) * (s * d) → n ≤ (s * unsigned_abs (half_up (pos d))) * (s * unsigned_abs (half_up (pos d)))
half_round n s d h =
    by n s d (unsigned_abs (half_up (pos d))) h (square_le (s * d) (s * (2 * unsigned_abs (half_up (pos d)))) (mul-le-mul_left s (half_holds d).1))
  where
    by : (n s d k : ℕ) → 4 * n ≤ (s * d) * (s * d) → (s * d) * (s * d) ≤ (s * (2 * k)) * (s * (2 * k)) → n ≤ (s * k) * (s * k)
    by n s d k h i = omega (arith, h, i)

half_small : (d : ℕ) → d ≤ 1000000 → unsigned_abs (half_up (pos d)) ≤ 1000000
half_small d h = omega (arith, h)

first_of : (q r k : ℕ) → q * q + r * r ≤ k * k → q ≤ k
first_of q r k h = root_le q k (omega (arith, h))

second_of : (q r k : ℕ) → q * q + r * r ≤ k * k → r ≤ k
second_of q r k h = root_le r k (omega (arith, h))

-- ---- a cylinder

module _ (h x y z : ℕ) (hh : h ≤ 1000000) (hx : x ≤ 1000000) (hy : y ≤ 1000000) (hz : z ≤ 1000000) where
  more : (m n : ℕ) → m ≤ 1000000 → n ≤ 1000000 → m + n ≤ 10000000
  more m n p q = omega (arith, p, q)

  wider : (m : ℕ) → m ≤ 1000000 → m ≤ 10000000
  wider m p = omega (arith, p)

  -- a side, and the diagonal of the two others with the radius
  aside_small : (m n : ℕ) → m ≤ 1000000 → n ≤ 1000000 → across_of m n + h ≤ 3000000
  aside_small m n p q = omega (arith, p, q, hh, across_small m n (wider m p) (wider n q))

  all_small : (k m n : ℕ) → k ≤ 1000000 → m ≤ 1000000 → n ≤ 1000000 → across_of k (across_of m n + h) ≤ 10000000
  all_small k m n o p q =
      let few = aside_small m n p q in
      omega (arith, o, few, across_small k (across_of m n + h) (wider k o) (omega (arith, few)))

  module _ (s : ℕ) (p : Along → ℤ) where
    -- u along the axis k, v and w beside it
    far_off : (k m n u v w q r : ℕ) → k ≤ 1000000 → m ≤ 1000000 → n ≤ 1000000 → u ≤ s * k → v ≤ s * m + q → w ≤ s * n + r → q * q + r * r ≤ (s * h) * (s * h)
        → u * u + v * v + w * w ≤ (s * across_of k (across_of m n + h)) * (s * across_of k (across_of m n + h))
    far_off k m n u v w q r hk hm hn hu hv hw off =
        all_far s k m n (across_of m n) (across_of k (across_of m n + h)) h u v w q r hu hv hw off (across_holds m n (wider m hm) (wider n hn))
        (across_holds k (across_of m n + h) (wider k hk) (omega (arith, aside_small m n hm hn)))

    grown : (m n k q : ℕ) → m ≤ s * n + q → q ≤ s * h → n + h ≤ k → m ≤ s * k
    grown m n k q a b c = omega (arith, a, b, mul-le-mul_left s c)

    longer : (m n k : ℕ) → m ≤ s * n → n ≤ k → m ≤ s * k
    longer m n k a c = omega (arith, a, mul-le-mul_left s c)

    in_x : (t b : ℤ) (q r : ℕ) → unsigned_abs (p X) ≤ s * x → unsigned_abs (p Y) ≤ s * y + q → unsigned_abs (p Z) ≤ s * z + r → q * q + r * r ≤ (s * h) * (s * h)
        → p Z ≤ℤ (pos s *ℤ (t +ℤ pos h)) → (pos s *ℤ (b -ℤ pos h)) ≤ℤ p Z → IsReachedBy (reach_along X (pos h) (pos x) (pos y) (pos z) t b) s p
    in_x t b q r on_x on_y on_z off top bottom = record {
      far = far_off x y z (unsigned_abs (p X)) (unsigned_abs (p Y)) (unsigned_abs (p Z)) q r hx hy hz on_x on_y on_z off;
      wide = le_pos (unsigned_abs (p Y)) (s * across_of x (y + h))
          (grown (unsigned_abs (p Y)) y (across_of x (y + h)) q on_y (first_of q r (s * h) off) (across_second x (y + h) (wider x hx) (more y h hy hh)));
      high = top;
      low = bottom;
    }

    in_y : (t b : ℤ) (q r : ℕ) → unsigned_abs (p Y) ≤ s * y → unsigned_abs (p X) ≤ s * x + q → unsigned_abs (p Z) ≤ s * z + r → q * q + r * r ≤ (s * h) * (s * h)
        → p Z ≤ℤ (pos s *ℤ (t +ℤ pos h)) → (pos s *ℤ (b -ℤ pos h)) ≤ℤ p Z → IsReachedBy (reach_along Y (pos h) (pos x) (pos y) (pos z) t b) s p
    in_y t b q r on_y on_x on_z off top bottom = record {
      far = turned (unsigned_abs (p X) * unsigned_abs (p X)) (unsigned_abs (p Y) * unsigned_abs (p Y)) (unsigned_abs (p Z) * unsigned_abs (p Z)) _
          (far_off y x z (unsigned_abs (p Y)) (unsigned_abs (p X)) (unsigned_abs (p Z)) q r hy hx hz on_y on_x on_z off);
      wide = le_pos (unsigned_abs (p Y)) (s * across_of y (x + h))
          (longer (unsigned_abs (p Y)) y (across_of y (x + h)) on_y (across_first y (x + h) (wider y hy) (more x h hx hh)));
      high = top;
      low = bottom;
    }
      where
        turned : (u v w k : ℕ) → v + u + w ≤ k → u + v + w ≤ k
        turned u v w k e = omega (arith, e)

    in_z : (t b : ℤ) (q r : ℕ) → unsigned_abs (p Z) ≤ s * z → unsigned_abs (p X) ≤ s * x + q → unsigned_abs (p Y) ≤ s * y + r → q * q + r * r ≤ (s * h) * (s * h)
        → p Z ≤ℤ (pos s *ℤ t) → (pos s *ℤ b) ≤ℤ p Z → IsReachedBy (reach_along Z (pos h) (pos x) (pos y) (pos z) t b) s p
    in_z t b q r on_z on_x on_y off top bottom = record {
      far = turned (unsigned_abs (p X) * unsigned_abs (p X)) (unsigned_abs (p Y) * unsigned_abs (p Y)) (unsigned_abs (p Z) * unsigned_abs (p Z)) _
          (far_off z x y (unsigned_abs (p Z)) (unsigned_abs (p X)) (unsigned_abs (p Y)) q r hz hx hy on_z on_x on_y off);
      wide = le_pos (unsigned_abs (p Y)) (s * (across_of x y + h))
          (grown (unsigned_abs (p Y)) y (across_of x y + h) r on_y (second_of q r (s * h) off) (beside (across_second x y (wider x hx) (wider y hy))));
      high = top;
      low = bottom;
    }
      where
        turned : (u v w k : ℕ) → w + u + v ≤ k → u + v + w ≤ k
        turned u v w k e = omega (arith, e)

        beside : y ≤ across_of x y → y + h ≤ across_of x y + h
        beside e = omega (arith, e)

  modest_along : (a : Along) (t b : ℤ) → IsModest (reach_along a (pos h) (pos x) (pos y) (pos z) t b)
  modest_along X t b = record { some = le_pos 0 (across_of x (across_of y z + h)) (omega arith); most = le_pos (across_of x (across_of y z + h)) 10000000 (all_small x y z hx hy hz) }
  modest_along Y t b = record { some = le_pos 0 (across_of y (across_of x z + h)) (omega arith); most = le_pos (across_of y (across_of x z + h)) 10000000 (all_small y x z hy hx hz) }
  modest_along Z t b = record { some = le_pos 0 (across_of z (across_of x y + h)) (omega arith); most = le_pos (across_of z (across_of x y + h)) 10000000 (all_small z x y hz hx hy) }

natural_small : (z : ℤ) → pos 0 ≤ℤ z → z ≤ℤ pos 1000000 → unsigned_abs z ≤ 1000000
natural_small z h k = omega (arith, ints)

farther_is : (a b : ℤ) → farther a b ≡ pos (unsigned_abs (farther a b))
farther_is a b = omega (arith, ints, clamps)

farther_small : (a b : ℤ) → unsigned_abs a ≤ 1000000 → unsigned_abs b ≤ 1000000 → unsigned_abs (farther a b) ≤ 1000000
farther_small a b h k = omega (arith, ints, clamps)

farther_first : (a b : ℤ) → unsigned_abs a ≤ unsigned_abs (farther a b)
farther_first a b = omega (arith, ints, clamps)

module _ (c : Cylinder) (close : IsClosePart c) where
  abbrev round : ℕ
  round = unsigned_abs c.diameter

  abbrev radius : ℕ
  radius = unsigned_abs (half_up (pos round))

  abbrev widest : Along → ℕ
  widest i = unsigned_abs (farther (place_on c.from i) (place_on c.to i))

  diameter_is : c.diameter ≡ pos round
  diameter_is = natural c.diameter close.some

  radius_small : radius ≤ 1000000
  radius_small = half_small round (natural_small c.diameter close.some close.most)

  small_x : widest X ≤ 1000000
  small_x = farther_small c.from.x c.to.x close.from.x close.to.x

  small_y : widest Y ≤ 1000000
  small_y = farther_small c.from.y c.to.y close.from.y close.to.y

  small_z : widest Z ≤ 1000000
  small_z = farther_small c.from.z c.to.z close.from.z close.to.z

  abbrev reach_by : Along → Reach
  reach_by a = reach_along a (pos radius) (pos (widest X)) (pos (widest Y)) (pos (widest Z)) (int_max c.from.z c.to.z) (int_min c.from.z c.to.z)

  reach_is : (a : Along)
      → reach_along a (half_up c.diameter) (farther c.from.x c.to.x) (farther c.from.y c.to.y) (farther c.from.z c.to.z) (int_max c.from.z c.to.z) (int_min c.from.z c.to.z)
      ≡ reach_by a
  reach_is a =
      ap (λ (r : ℤ). reach_along a r (farther c.from.x c.to.x) (farther c.from.y c.to.y) (farther c.from.z c.to.z) (int_max c.from.z c.to.z) (int_min c.from.z c.to.z))
      (ap half_up diameter_is ∙ (half_holds round).0)
      ∙ ap (λ (x : ℤ). reach_along a (pos radius) x (farther c.from.y c.to.y) (farther c.from.z c.to.z) (int_max c.from.z c.to.z) (int_min c.from.z c.to.z)) (farther_is c.from.x c.to.x)
      ∙ ap (λ (y : ℤ). reach_along a (pos radius) (pos (widest X)) y (farther c.from.z c.to.z) (int_max c.from.z c.to.z) (int_min c.from.z c.to.z)) (farther_is c.from.y c.to.y)
      ∙ ap (λ (z : ℤ). reach_along a (pos radius) (pos (widest X)) (pos (widest Y)) z (int_max c.from.z c.to.z) (int_min c.from.z c.to.z)) (farther_is c.from.z c.to.z)

  pub part_modest : IsModest (cylinder_reach c)
  part_modest =
      let a = axis_between c.from c.to in
      subst (λ (r : Reach). IsModest r) (sym (reach_is a))
      (modest_along radius (widest X) (widest Y) (widest Z) radius_small small_x small_y small_z a (int_max c.from.z c.to.z) (int_min c.from.z c.to.z))

  module _ (s : ℕ) (p : Along → ℤ) where
    abbrev off : Along → ℕ
    off i = unsigned_abs (way_from s c.from p i)

    beside : (i : Along) → unsigned_abs (p i) ≤ s * widest i + off i
    beside i = off_way s (widest i) (place_on c.from i) (p i) (farther_first (place_on c.from i) (place_on c.to i))

    top : off Z ≤ s * radius → p Z ≤ℤ (pos s *ℤ (int_max c.from.z c.to.z +ℤ pos radius))
    top h = up_to s radius c.from.z (int_max c.from.z c.to.z) (p Z) (max_left c.from.z c.to.z) h

    bottom : off Z ≤ s * radius → (pos s *ℤ (int_min c.from.z c.to.z -ℤ pos radius)) ≤ℤ p Z
    bottom h = down_to s radius c.from.z (int_min c.from.z c.to.z) (p Z) (min_left c.from.z c.to.z) h

    reached_along : (a : Along) → IsAbout a c s p → IsReachedBy (reach_by a) s p
    reached_along X h =
        let q = way_from s c.from p in
        let near = half_round (off Y * off Y + off Z * off Z) s round (near_number (q Y) (q Z) c.diameter s round diameter_is h.near) in
        let last = second_of (off Y) (off Z) (s * radius) near in
        in_x radius (widest X) (widest Y) (widest Z) radius_small small_x small_y small_z s p (int_max c.from.z c.to.z) (int_min c.from.z c.to.z) (off Y) (off Z)
        (on_way s c.from.x c.to.x (p X) h.from_low h.to_high) (beside Y) (beside Z) near (top last) (bottom last)
    reached_along Y h =
        let q = way_from s c.from p in
        let near = half_round (off X * off X + off Z * off Z) s round (near_number (q X) (q Z) c.diameter s round diameter_is h.near) in
        let last = second_of (off X) (off Z) (s * radius) near in
        in_y radius (widest X) (widest Y) (widest Z) radius_small small_x small_y small_z s p (int_max c.from.z c.to.z) (int_min c.from.z c.to.z) (off X) (off Z)
        (on_way s c.from.y c.to.y (p Y) h.from_low h.to_high) (beside X) (beside Z) near (top last) (bottom last)
    reached_along Z h =
        let q = way_from s c.from p in
        let near = half_round (off X * off X + off Y * off Y) s round (near_number (q X) (q Y) c.diameter s round diameter_is h.near) in
        in_z radius (widest X) (widest Y) (widest Z) radius_small small_x small_y small_z s p (int_max c.from.z c.to.z) (int_min c.from.z c.to.z) (off X) (off Y)
        (on_way s c.from.z c.to.z (p Z) h.from_low h.to_high) (beside X) (beside Y) near h.to_high h.from_low

    pub part_reached : IsAbout (axis_between c.from c.to) c s p → IsReachedBy (cylinder_reach c) s p
    part_reached h =
        let a = axis_between c.from c.to in
        subst (λ (r : Reach). IsReachedBy r s p) (sym (reach_is a)) (reached_along a h)

-- ---- a ball

module _ (b : Ball) (close : IsCloseBall b) where
  abbrev ball_round : ℕ
  ball_round = unsigned_abs b.diameter

  abbrev ball_radius : ℕ
  ball_radius = unsigned_abs (half_up (pos ball_round))

  abbrev at_x : ℕ
  at_x = unsigned_abs b.at.x

  abbrev at_y : ℕ
  at_y = unsigned_abs b.at.y

  abbrev at_z : ℕ
  at_z = unsigned_abs b.at.z

  abbrev squares : ℕ
  squares = at_x * at_x + at_y * at_y + at_z * at_z

  abbrev distance : ℕ
  distance = unsigned_abs (root_up (pos squares))

  squares_fit : squares < 2 ^ 128
  squares_fit = omega (arith, square_le at_x 1000000 close.place.x, square_le at_y 1000000 close.place.y, square_le at_z 1000000 close.place.z)

  distance_holds : squares ≤ distance * distance
  distance_holds = no_more squares (distance * distance) (under_root squares 0 (pos squares) (none (pos squares)) squares_fit)
    where
      no_more : (m n : ℕ) → m ≤ 0 + n → m ≤ n
      no_more m n h = omega (arith, h)

      none : (z : ℤ) → z ≡ z -ℤ pos 0
      none z = omega (arith, ints)

  distance_small : distance ≤ 3000000
  distance_small =
      let h : distance ≤ at_x + at_y + at_z = rounded_small squares (root_down squares) (at_x + at_y + at_z) (root_is squares squares_fit) (omega arith) in
      omega (arith, h, close.place.x, close.place.y, close.place.z)

  ball_diameter : b.diameter ≡ pos ball_round
  ball_diameter = natural b.diameter close.some

  ball_radius_is : half_up b.diameter ≡ pos ball_radius
  ball_radius_is = ap half_up ball_diameter ∙ (half_holds ball_round).0

  ball_radius_small : ball_radius ≤ 1000000
  ball_radius_small = half_small ball_round (natural_small b.diameter close.some close.most)

  far_is : root_up (b.at.x *ℤ b.at.x +ℤ b.at.y *ℤ b.at.y +ℤ b.at.z *ℤ b.at.z) +ℤ half_up b.diameter ≡ pos (distance + ball_radius)
  far_is = rw (square_is b.at.x, square_is b.at.y, square_is b.at.z, ball_radius_is) refl

  wide_is : diagonal b.at.x b.at.y +ℤ half_up b.diameter ≡ pos (across_of at_x at_y + ball_radius)
  wide_is = rw (square_is b.at.x, square_is b.at.y, ball_radius_is) refl

  pub ball_modest : IsModest (ball_reach b)
  ball_modest = record {
    some = subst (λ (z : ℤ). pos 0 ≤ℤ z) (sym far_is) (le_pos 0 (distance + ball_radius) (omega arith));
    most = subst (λ (z : ℤ). z ≤ℤ pos 10000000) (sym far_is) (le_pos (distance + ball_radius) 10000000 (omega (arith, distance_small, ball_radius_small)));
  }

  module _ (s : ℕ) (p : Along → ℤ) (around : IsAround b s p) where
    abbrev ball_off : Along → ℕ
    ball_off i = unsigned_abs (way_from s b.at p i)

    near : ball_off X * ball_off X + ball_off Y * ball_off Y + ball_off Z * ball_off Z ≤ (s * ball_radius) * (s * ball_radius)
    near = half_round _ s ball_round (round_number (way_from s b.at p) b.diameter s ball_round ball_diameter around.near)

    near_y : ball_off Y ≤ s * ball_radius
    near_y = root_le (ball_off Y) (s * ball_radius) (omega (arith, near))

    near_z : ball_off Z ≤ s * ball_radius
    near_z = root_le (ball_off Z) (s * ball_radius) (omega (arith, near))

    on_axis : (i : Along) → unsigned_abs (p i) ≤ s * unsigned_abs (place_on b.at i) + ball_off i
    on_axis i = off_way s (unsigned_abs (place_on b.at i)) (place_on b.at i) (p i) (omega arith)

    le_same : (z : ℤ) → z ≤ℤ z
    le_same z = omega (arith, ints)

    all_off : square_off p ≤ (s * (distance + ball_radius)) * (s * (distance + ball_radius))
    all_off =
        let x = square_le (unsigned_abs (p X)) (s * at_x + ball_off X) (on_axis X) in
        let y = square_le (unsigned_abs (p Y)) (s * at_y + ball_off Y) (on_axis Y) in
        let z = square_le (unsigned_abs (p Z)) (s * at_z + ball_off Z) (on_axis Z) in
        sums _ _ _ _ _ _ _ x y z (both_far s at_x at_y at_z (ball_off X) (ball_off Y) (ball_off Z) distance ball_radius distance_holds near)
      where
        sums : (u v w k m n r : ℕ) → u ≤ k → v ≤ m → w ≤ n → k + m + n ≤ r → u + v + w ≤ r
        sums u v w k m n r a b c d = omega (arith, a, b, c, d)

    wide_off : unsigned_abs (p Y) ≤ s * (across_of at_x at_y + ball_radius)
    wide_off = by (on_axis Y) near_y (mul-le-mul_left s (across_second at_x at_y (more_x close.place.x) (more_x close.place.y)))
      where
        more_x : {n : ℕ} → n ≤ 1000000 → n ≤ 10000000
        more_x h = omega (arith, h)

        by : unsigned_abs (p Y) ≤ s * at_y + ball_off Y → ball_off Y ≤ s * ball_radius → s * at_y ≤ s * across_of at_x at_y
            → unsigned_abs (p Y) ≤ s * (across_of at_x at_y + ball_radius)
        by a b c = omega (arith, a, b, c)

    pub ball_reached : IsReachedBy (ball_reach b) s p
    ball_reached = record {
      far = subst (λ (z : ℤ). square_off p ≤ (s * unsigned_abs z) * (s * unsigned_abs z)) (sym far_is) all_off;
      wide = subst (λ (z : ℤ). pos (unsigned_abs (p Y)) ≤ℤ (pos s *ℤ z)) (sym wide_is) (le_pos (unsigned_abs (p Y)) (s * (across_of at_x at_y + ball_radius)) wide_off);
      high = subst (λ (z : ℤ). p Z ≤ℤ (pos s *ℤ (b.at.z +ℤ z))) (sym ball_radius_is) (up_to s ball_radius b.at.z b.at.z (p Z) (le_same b.at.z) near_z);
      low = subst (λ (z : ℤ). (pos s *ℤ (b.at.z -ℤ z)) ≤ℤ p Z) (sym ball_radius_is) (down_to s ball_radius b.at.z b.at.z (p Z) (le_same b.at.z) near_z);
    }

-- ---- all that turns

no_modest : IsOutward no_reach
no_modest = record {
  far = record { some = le_pos 0 0 (omega arith); most = le_pos 0 10000000 (omega arith) };
  high = le_pos 0 0 (omega arith);
  low = le_pos 0 0 (omega arith);
}

parts_outward : (all : Reach) (cs : List Cylinder) → IsOutward all → AllByRecursion IsClosePart cs → IsOutward (cylinders_reach all cs)
parts_outward all [] h close = h
parts_outward all (c ∷ cs) h close = parts_outward (farther_of all (cylinder_reach c)) cs (outward_of all (cylinder_reach c) h (part_modest c close.0)) close.1

balls_outward : (all : Reach) (bs : List Ball) → IsOutward all → AllByRecursion IsCloseBall bs → IsOutward (balls_reach all bs)
balls_outward all [] h close = h
balls_outward all (b ∷ bs) h close = balls_outward (farther_of all (ball_reach b)) bs (outward_of all (ball_reach b) h (ball_modest b close.0)) close.1

module _ (s : ℕ) (p : Along → ℤ) where
  parts_keep : (all : Reach) (cs : List Cylinder) → IsOutward all → AllByRecursion IsClosePart cs → IsReachedBy all s p → IsReachedBy (cylinders_reach all cs) s p
  parts_keep all [] h close k = k
  parts_keep all (c ∷ cs) h close k =
      parts_keep (farther_of all (cylinder_reach c)) cs (outward_of all (cylinder_reach c) h (part_modest c close.0)) close.1 (reached_first all (cylinder_reach c) s p h.far k)

  balls_keep : (all : Reach) (bs : List Ball) → IsOutward all → AllByRecursion IsCloseBall bs → IsReachedBy all s p → IsReachedBy (balls_reach all bs) s p
  balls_keep all [] h close k = k
  balls_keep all (b ∷ bs) h close k =
      balls_keep (farther_of all (ball_reach b)) bs (outward_of all (ball_reach b) h (ball_modest b close.0)) close.1 (reached_first all (ball_reach b) s p h.far k)

  parts_reach : (all : Reach) (cs : List Cylinder) (c : Cylinder) → IsOutward all → AllByRecursion IsClosePart cs → Contains cs c → IsAbout (axis_between c.from c.to) c s p
      → IsReachedBy (cylinders_reach all cs) s p
  parts_reach all [] c h close (k, lt, e) about = absurd (omega (arith, lt))
  parts_reach all (x ∷ cs) c h close (zero, lt, e) about =
      parts_keep (farther_of all (cylinder_reach x)) cs (outward_of all (cylinder_reach x) h (part_modest x close.0)) close.1
      (reached_second all (cylinder_reach x) s p (part_modest x close.0) (part_reached x close.0 s p (subst (λ (y : Cylinder). IsAbout (axis_between y.from y.to) y s p) (sym e) about)))
  parts_reach all (x ∷ cs) c h close (suc k, lt, e) about =
      parts_reach (farther_of all (cylinder_reach x)) cs c (outward_of all (cylinder_reach x) h (part_modest x close.0)) close.1 (k, omega (arith, lt), e) about

  balls_reach_it : (all : Reach) (bs : List Ball) (b : Ball) → IsOutward all → AllByRecursion IsCloseBall bs → Contains bs b → IsAround b s p → IsReachedBy (balls_reach all bs) s p
  balls_reach_it all [] b h close (k, lt, e) around = absurd (omega (arith, lt))
  balls_reach_it all (x ∷ bs) b h close (zero, lt, e) around =
      balls_keep (farther_of all (ball_reach x)) bs (outward_of all (ball_reach x) h (ball_modest x close.0)) close.1
      (reached_second all (ball_reach x) s p (ball_modest x close.0) (ball_reached x close.0 s p (subst (λ (y : Ball). IsAround y s p) (sym e) around)))
  balls_reach_it all (x ∷ bs) b h close (suc k, lt, e) around =
      balls_reach_it (farther_of all (ball_reach x)) bs b (outward_of all (ball_reach x) h (ball_modest x close.0)) close.1 (k, omega (arith, lt), e) around

  module _ (cs : List Cylinder) (bs : List Ball) (parts : AllByRecursion IsClosePart cs) (balls : AllByRecursion IsCloseBall bs) where
    pub part_within : (c : Cylinder) → Contains cs c → IsAbout (axis_between c.from c.to) c s p → IsReachedBy (whole_reach cs bs) s p
    part_within c there about =
        balls_keep (cylinders_reach no_reach cs) bs (parts_outward no_reach cs no_modest parts) balls (parts_reach no_reach cs c no_modest parts there about)

    pub ball_within : (b : Ball) → Contains bs b → IsAround b s p → IsReachedBy (whole_reach cs bs) s p
    ball_within b there around = balls_reach_it (cylinders_reach no_reach cs) bs b (parts_outward no_reach cs no_modest parts) balls there around

pub whole_outward : (cs : List Cylinder) (bs : List Ball) → AllByRecursion IsClosePart cs → AllByRecursion IsCloseBall bs → IsOutward (whole_reach cs bs)
whole_outward cs bs parts balls = balls_outward (cylinders_reach no_reach cs) bs (parts_outward no_reach cs no_modest parts) balls
