-- Directions that keep a range and a triangle apart.
use Rattle.std.proofs.Common.{◌≡◌, ℕ, ℤ, pos, ◌<◌, Bool, true, false, ◌||◌, ◌&&◌, arith, refl, subst}
use Rattle.std.specs.Prelude.{int_lt}
use Rattle.std.proofs.lemmas.Int.{ints}
use lib.Signed.{◌<ℤ◌}
use Rattle.vcm_covering.specs.Parting.{Corners, IsHeld, IsInside, IsBefore, IsUpTo, IsOpenAt}
use Rattle.vcm_covering.proofs.Apart.{apart, apart_open}
use Rattle.vcm_boxing.specs.declared.range.Range.{Range}
use Rattle.vcm_boxing.specs.declared.range.Stretch.{Stretch}
use Rattle.vcm_boxing.specs.Ranges.{IsIn, IsMissed, lows, highs, open_lows, open_highs, points_to_open, points_to_open_on, stretch}

-- a place in a range, as a place in a box
in_box : (r : Range) (s : ℕ) (x : ℕ → ℤ) → IsIn r s x → IsHeld (lows r) (highs r) s x
in_box r s x i = record { from_low = λ k lt. (i.on_axis k lt).from_low; to_high = λ k lt. (i.on_axis k lt).to_high }

inside : (r : Range) (s : ℕ) (x : ℕ → ℤ) → IsIn r s x → IsInside (lows r) (highs r) (open_lows r) (open_highs r) s x
inside r s x i = record {
  held = in_box r s x i;
  off_low = λ k lt. (i.on_axis k lt).off_low;
  off_high = λ k lt. (i.on_axis k lt).off_high;
}

-- the range lies before all corners
pub before : (n : ℕ → ℤ) (r : Range) (t : Corners) → IsBefore n (lows r) (highs r) t → IsMissed t r
before n r t b = record { none = λ s x p i. apart n (lows r) (highs r) t b s x p (in_box r s x i) }

-- on one axis the end to which a number points is open
first_of : (p q a b : Bool) → p ≡ true → q ≡ false → (p && a) || (q && b) ≡ true → a ≡ true
first_of true false true b ep eq e = refl
first_of true false false b ep eq e = e
first_of true true a b ep eq e = absurd (cc)
first_of false q a b ep eq e = absurd (cc)

second_of : (p q a b : Bool) → p ≡ false → q ≡ true → (p && a) || (q && b) ≡ true → b ≡ true
second_of false true a true ep eq e = refl
second_of false true a false ep eq e = e
second_of false false a b ep eq e = absurd (cc)
second_of true q a b ep eq e = absurd (cc)

open_high_at : (n : ℤ) (w : Stretch) → points_to_open_on n w ≡ true → pos 0 <ℤ n → w.open_high ≡ true
open_high_at n w e lt =
    let p : int_lt (pos 0) n ≡ true = grind (arith, ints) in
    let q : int_lt n (pos 0) ≡ false = grind (arith, ints) in
    first_of (int_lt (pos 0) n) (int_lt n (pos 0)) w.open_high w.open_low p q e

open_low_at : (n : ℤ) (w : Stretch) → points_to_open_on n w ≡ true → n <ℤ pos 0 → w.open_low ≡ true
open_low_at n w e lt =
    let p : int_lt (pos 0) n ≡ false = grind (arith, ints) in
    let q : int_lt n (pos 0) ≡ true = grind (arith, ints) in
    second_of (int_lt (pos 0) n) (int_lt n (pos 0)) w.open_high w.open_low p q e

none_at_zero : (w : Stretch) → points_to_open_on (pos 0) w ≡ true → ⊥
none_at_zero w e = cc

some_at : (n : ℤ) (w : Stretch) → points_to_open_on n w ≡ true → n ≡ pos 0 → ⊥
some_at n w e is = none_at_zero w (subst (λ (z : ℤ). points_to_open_on z w ≡ true) is e)

open_at : (n : ℕ → ℤ) (r : Range) (k : ℕ) → k < 3 → points_to_open_on (n k) (stretch r k) ≡ true → IsOpenAt n (lows r) (highs r) (open_lows r) (open_highs r) k
open_at n r k lt e = record { axis = lt; up = open_high_at (n k) (stretch r k) e; down = open_low_at (n k) (stretch r k) e; some = some_at (n k) (stretch r k) e }

-- the range lies before all corners or up to them, and an end to which the direction points is open
pub up_to : (n : ℕ → ℤ) (r : Range) (t : Corners) → IsUpTo n (lows r) (highs r) t → points_to_open n r ≡ true → IsMissed t r
up_to n r t u e = by_axis (points_to_open_on (n 0) (stretch r 0)) (points_to_open_on (n 1) (stretch r 1)) (points_to_open_on (n 2) (stretch r 2)) refl refl refl e
  where
    at : (k : ℕ) → k < 3 → points_to_open_on (n k) (stretch r k) ≡ true → IsMissed t r
    at k lt o = record { none = λ s x p i. apart_open n (lows r) (highs r) (open_lows r) (open_highs r) t k u (open_at n r k lt o) s x p (inside r s x i) }

    by_axis : (a b c : Bool) → points_to_open_on (n 0) (stretch r 0) ≡ a → points_to_open_on (n 1) (stretch r 1) ≡ b → points_to_open_on (n 2) (stretch r 2) ≡ c
        → a || b || c ≡ true → IsMissed t r
    by_axis true b c ea eb ec h = at 0 (omega arith) ea
    by_axis false true c ea eb ec h = at 1 (omega arith) eb
    by_axis false false true ea eb ec h = at 2 (omega arith) ec
    by_axis false false false ea eb ec h = absurd (cc)
