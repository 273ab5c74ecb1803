-- How far places lie off the turning centre, as squares of whole numbers.
use Rattle.std.proofs.Common.{◌≡◌, ℕ, ℤ, pos, ◌+◌, ◌*◌, ◌^◌, ◌<◌, ◌≤◌, ◌+ℤ◌, ◌-ℤ◌, ◌*ℤ◌, ◌≤ℤ◌, Bool, true, false, arith, ap, refl, sym, ◌∙◌}
use Rattle.std.specs.Prelude.{unsigned_abs, ◌==◌}
use Rattle.std.proofs.Math.Nat.{mul-le-mul_left, mul-le-mul_right}
use Rattle.std.proofs.Math.IntN.{*ℤ_comm}
use Rattle.std.proofs.lemmas.Int.{ints}
use Rattle.std.proofs.lemmas.Bool.Decides.{Decides-eqb}
use lib.Signed.{◌<ℤ◌}
use Rattle.vcm_num.proofs.Ring.{mul-add, add-mul, mul-assoc}
use Rattle.vcm_hardware.specs.Intervals.{root_down, rounded_up}
use Rattle.vcm_hardware.specs.Swings.{diagonal}
use Rattle.vcm_hardware.proofs.Floors.{square_is}
use Rattle.vcm_hardware.proofs.Roots.{IsRoot, square_le, exact_root, next_root}
use Rattle.vcm_hardware.proofs.Products.{mul-sub, sub-mul, swap}
use Rattle.vcm_hardware.proofs.Widths.{root_is, root_holds, root_size}
use Rattle.vcm_hardware.proofs.Turns.{whole_number}
use Rattle.vcm_hardware.proofs.Balls.{in_common}

-- ---- squares

pub root_le : (x y : ℕ) → x * x ≤ y * y → x ≤ y
root_le x y h = exact_root x y (x * x) refl h

-- what is not farther than h off a place that isn't farther than r, both counted s times, isn't farther than r and h
pub both_far : (s a b c x y z r h : ℕ) → a * a + b * b + c * c ≤ r * r → x * x + y * y + z * z ≤ (s * h) * (s * h)
    → (s * a + x) * (s * a + x) + (s * b + y) * (s * b + y) + (s * c + z) * (s * c + z) ≤ (s * (r + h)) * (s * (r + h))
both_far s a b c x y z r h near off =
    let shared : (a * x + b * y + c * z) * (a * x + b * y + c * z) ≤ (r * (s * h)) * (r * (s * h)) =
    squares (a * x + b * y + c * z) (a * a + b * b + c * c) (x * x + y * y + z * z) r (s * h) (in_common a b c x y z) near off in
    let first : a * x + b * y + c * z ≤ r * (s * h) = root_le (a * x + b * y + c * z) (r * (s * h)) shared in
    let twice : (2 * s) * (a * x + b * y + c * z) ≤ (2 * s) * (r * (s * h)) = mul-le-mul_left (2 * s) first in
    let away : (s * s) * (a * a + b * b + c * c) ≤ (s * s) * (r * r) = mul-le-mul_left (s * s) near in
    omega (arith, twice, away, off)
  where
    squares : (k p q m n : ℕ) → k * k ≤ p * q → p ≤ m * m → q ≤ n * n → k * k ≤ (m * n) * (m * n)
    squares k p q m n h i j = omega (arith, h, mul-le-mul_right q i, mul-le-mul_left (m * m) j)

-- the same on two axes
pub two_far : (s a b x y r h : ℕ) → a * a + b * b ≤ r * r → x * x + y * y ≤ (s * h) * (s * h)
    → (s * a + x) * (s * a + x) + (s * b + y) * (s * b + y) ≤ (s * (r + h)) * (s * (r + h))
two_far s a b x y r h near off = omega (arith, both_far s a b 0 x y 0 r h (omega (arith, near)) (omega (arith, off)))

-- u on one axis, and v and w on two others, near a place there
pub all_far : (s a b c d e h u v w x y : ℕ) → u ≤ s * a → v ≤ s * b + x → w ≤ s * c + y → x * x + y * y ≤ (s * h) * (s * h) → b * b + c * c ≤ d * d
    → a * a + (d + h) * (d + h) ≤ e * e → u * u + v * v + w * w ≤ (s * e) * (s * e)
all_far s a b c d e h u v w x y hu hv hw off near far =
    let p : u * u ≤ (s * a) * (s * a) = square_le u (s * a) hu in
    let q : v * v ≤ (s * b + x) * (s * b + x) = square_le v (s * b + x) hv in
    let r : w * w ≤ (s * c + y) * (s * c + y) = square_le w (s * c + y) hw in
    let o = two_far s b c x y d h near off in
    let i : (s * s) * (a * a + (d + h) * (d + h)) ≤ (s * s) * (e * e) = mul-le-mul_left (s * s) far in
    sums (u * u) (v * v) (w * w) ((s * b + x) * (s * b + x)) ((s * c + y) * (s * c + y)) s a d h e p q r o i
  where
    sums : (u v w m n s a d h e : ℕ) → u ≤ (s * a) * (s * a) → v ≤ m → w ≤ n → m + n ≤ (s * (d + h)) * (s * (d + h))
        → (s * s) * (a * a + (d + h) * (d + h)) ≤ (s * s) * (e * e) → u + v + w ≤ (s * e) * (s * e)
    sums u v w m n s a d h e p q r o i = omega (arith, p, q, r, o, i)

-- ---- diagonals

-- that of two sides
abbrev pub across_of : ℕ → ℕ → ℕ
across_of a b = unsigned_abs (diagonal (pos a) (pos b))

pub across_is : (a b : ℕ) → diagonal (pos a) (pos b) ≡ pos (across_of a b)
across_is a b = root_size (pos (a * a + b * b))

fits : (a b : ℕ) → a ≤ 10000000 → b ≤ 10000000 → a * a + b * b < 2 ^ 128
fits a b p q = omega (arith, square_le a 10000000 p, square_le b 10000000 q)

pub across_holds : (a b : ℕ) → a ≤ 10000000 → b ≤ 10000000 → a * a + b * b ≤ across_of a b * across_of a b
across_holds a b p q = by (a * a + b * b) (across_of a b * across_of a b) (root_holds (pos (a * a + b * b)) (small (a * a + b * b) (fits a b p q)))
  where
    small : (n : ℕ) → n < 2 ^ 128 → pos n <ℤ pos (2 ^ 128)
    small n h = omega (arith, ints)

    by : (x y : ℕ) → pos x ≤ℤ pos y → x ≤ y
    by x y h = omega (arith, ints, h)

pub rounded_small : (n r c : ℕ) → IsRoot n r → n ≤ c * c → rounded_up n r ≤ c
rounded_small n r c is h = by (r * r == n) refl
  where
    by : (t : Bool) → (r * r == n) ≡ t → rounded_up n r ≤ c
    by true e = rw e (exact_root r c n ((Decides-eqb (r * r) n).0 e) h)
    by false e = rw e (next_root r c n is.below (λ same. absurd (let no : true ≡ false = sym ((Decides-eqb (r * r) n).1 same) ∙ e in cc)) h)

pub across_small : (a b : ℕ) → a ≤ 10000000 → b ≤ 10000000 → across_of a b ≤ a + b
across_small a b p q = rounded_small (a * a + b * b) (root_down (a * a + b * b)) (a + b) (root_is (a * a + b * b) (fits a b p q)) (omega arith)

-- it is no shorter than its sides
pub across_first : (a b : ℕ) → a ≤ 10000000 → b ≤ 10000000 → a ≤ across_of a b
across_first a b p q = root_le a (across_of a b) (omega (arith, across_holds a b p q))

pub across_second : (a b : ℕ) → a ≤ 10000000 → b ≤ 10000000 → b ≤ across_of a b
across_second a b p q = root_le b (across_of a b) (omega (arith, across_holds a b p q))

-- ---- a turn in a plane

pub four : (a b c d : ℤ) → (a *ℤ b) *ℤ (c *ℤ d) ≡ (a *ℤ c) *ℤ (b *ℤ d)
four a b c d = mul-assoc a b (c *ℤ d) ∙ ap (λ z. a *ℤ z) (swap b c d) ∙ sym (mul-assoc a c (b *ℤ d))

square_less : (p q : ℤ) → (p -ℤ q) *ℤ (p -ℤ q) ≡ (p *ℤ p -ℤ p *ℤ q) -ℤ (q *ℤ p -ℤ q *ℤ q)
square_less p q = sub-mul p q (p -ℤ q) ∙ ap (λ z. z -ℤ q *ℤ (p -ℤ q)) (mul-sub p p q) ∙ ap (λ z. (p *ℤ p -ℤ p *ℤ q) -ℤ z) (mul-sub q p q)

square_more : (p q : ℤ) → (p +ℤ q) *ℤ (p +ℤ q) ≡ (p *ℤ p +ℤ p *ℤ q) +ℤ (q *ℤ p +ℤ q *ℤ q)
square_more p q = add-mul p q (p +ℤ q) ∙ ap (λ z. z +ℤ q *ℤ (p +ℤ q)) (mul-add p p q) ∙ ap (λ z. (p *ℤ p +ℤ p *ℤ q) +ℤ z) (mul-add q p q)

gathered : (l m a b d e f g h i j k o : ℤ) → l ≡ (a -ℤ b) -ℤ (d -ℤ e) → m ≡ (f +ℤ g) +ℤ (h +ℤ i) → b ≡ d → g ≡ h → b ≡ g → j ≡ a +ℤ i → k ≡ f +ℤ e → o ≡ j +ℤ k → l +ℤ m ≡ o
gathered l m a b d e f g h i j k o el em bd gh bg ej ek eo = omega (arith, ints)

-- a turn by an angle keeps squares, but for that of the number over which it is given
pub turn_keeps : (c s x y : ℤ) (n : ℕ) → (c *ℤ c +ℤ s *ℤ s) ≡ pos (n * n)
    → unsigned_abs (c *ℤ x -ℤ s *ℤ y) * unsigned_abs (c *ℤ x -ℤ s *ℤ y) + unsigned_abs (s *ℤ x +ℤ c *ℤ y) * unsigned_abs (s *ℤ x +ℤ c *ℤ y)
    ≡ (n * n) * (unsigned_abs x * unsigned_abs x + unsigned_abs y * unsigned_abs y)
turn_keeps c s x y n one =
    let p = c *ℤ x in
    let q = s *ℤ y in
    let t = s *ℤ x in
    let v = c *ℤ y in
    let all : (p -ℤ q) *ℤ (p -ℤ q) +ℤ (t +ℤ v) *ℤ (t +ℤ v) ≡ (c *ℤ c +ℤ s *ℤ s) *ℤ (x *ℤ x +ℤ y *ℤ y) =
    gathered _ _ (p *ℤ p) (p *ℤ q) (q *ℤ p) (q *ℤ q) (t *ℤ t) (t *ℤ v) (v *ℤ t) (v *ℤ v) ((c *ℤ c) *ℤ (x *ℤ x +ℤ y *ℤ y)) ((s *ℤ s) *ℤ (x *ℤ x +ℤ y *ℤ y)) _
    (square_less p q) (square_more t v) (*ℤ_comm p q) (*ℤ_comm t v) (four c x s y ∙ ap (λ z. z *ℤ (x *ℤ y)) (*ℤ_comm c s) ∙ sym (four s x c y))
    (mul-add (c *ℤ c) (x *ℤ x) (y *ℤ y) ∙ ap (λ z. z +ℤ (c *ℤ c) *ℤ (y *ℤ y)) (four c c x x) ∙ ap (λ z. p *ℤ p +ℤ z) (four c c y y))
    (mul-add (s *ℤ s) (x *ℤ x) (y *ℤ y) ∙ ap (λ z. z +ℤ (s *ℤ s) *ℤ (y *ℤ y)) (four s s x x) ∙ ap (λ z. t *ℤ t +ℤ z) (four s s y y))
    (add-mul (c *ℤ c) (s *ℤ s) (x *ℤ x +ℤ y *ℤ y)) in
    whole_number _ _ ((p -ℤ q) *ℤ (p -ℤ q) +ℤ (t +ℤ v) *ℤ (t +ℤ v)) (two_squares (p -ℤ q) (t +ℤ v))
    (all ∙ ap (λ z. z *ℤ (x *ℤ x +ℤ y *ℤ y)) one ∙ ap (λ z. pos (n * n) *ℤ z) (two_squares x y))
  where
    two_squares : (a b : ℤ) → a *ℤ a +ℤ b *ℤ b ≡ pos (unsigned_abs a * unsigned_abs a + unsigned_abs b * unsigned_abs b)
    two_squares a b = rw (square_is a, square_is b) refl

-- the two turns of a head keep them
pub turns_keep : (m n x y z u v p q r : ℕ) → v * v + u * u ≡ (m * m) * (z * z + y * y) → p * p + q * q ≡ (n * n) * ((m * x) * (m * x) + u * u) → r ≡ n * v
    → p * p + q * q + r * r ≡ ((m * n) * (m * n)) * (x * x + y * y + z * z)
turns_keep m n x y z u v p q r ha hb er =
    let scaled : (n * n) * (v * v + u * u) ≡ (n * n) * ((m * m) * (z * z + y * y)) = ap (λ k. (n * n) * k) ha in
    rw er (omega (arith, hb, scaled))
