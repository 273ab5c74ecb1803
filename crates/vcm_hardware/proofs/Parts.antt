-- Each point of a part that is turned lies in one of its boxes.
use Rattle.std.proofs.Common.{◌≡◌, ℕ, ℤ, pos, negsuc, zero, suc, ◌*◌, ◌<◌, ◌≤◌, ◌-ℤ◌, ◌*ℤ◌, ◌≤ℤ◌, neg_ℤ, Bool, true, false, List, [], ◌∷◌, arith, refl, sym}
use Rattle.std.specs.Prelude.{unsigned_abs, nat_le, int_le, get_or, not, ◌&&◌, if◌then◌else◌}
use Rattle.std.specs.Int.{int_div_euclid, int_rem_euclid, int_max}
use Rattle.std.specs.List.{list_all}
use Rattle.std.specs.Ordering.{int_eq}
use Rattle.std.proofs.lemmas.Int.{ints, clamps}
use Rattle.std.proofs.lemmas.Bool.{and_parts, leb-true}
use Rattle.std.proofs.lemmas.Bool.Decides.{Decides-int_eq}
use Rattle.vcm_hardware.specs.declared.interval.Ratio.{Ratio}
use Rattle.vcm_hardware.specs.declared.angle.Along.{Along}
use Rattle.vcm_hardware.specs.declared.angle.Along.TheVariants.{X, Y, Z}
use Rattle.vcm_hardware.specs.declared.description.Place.{Place}
use Rattle.vcm_hardware.specs.declared.description.Cylinder.{Cylinder}
use Rattle.vcm_hardware.specs.declared.cylinder.Side.{Side}
use Rattle.vcm_hardware.specs.inner.Sizes.{IsUnit}
use Rattle.vcm_hardware.specs.Intervals.{floor_one, ceil_one, least_of, greatest_of, product, negative, wide, least_size}
use Rattle.vcm_hardware.specs.Turned.{cosines, just, quarter_cosine, cosine_within, cosine, sine, towards, column, turning_by}
use Rattle.vcm_hardware.specs.Slabs.{axis_between, seen_from, side_on, aside, over_up, slabs_of}
use Rattle.vcm_hardware.specs.HardwareFile.{one_of_three, differs_once}
use Rattle.vcm_hardware.specs.Boxes.{part_boxes}
use Rattle.vcm_hardware.specs.Holding.{rows_give, IsTurn, IsAbout, turned_place, IsCovered, PartsAreHeld}
use Rattle.vcm_hardware.proofs.Floors.{unit_small, four_least, four_greatest}
use Rattle.vcm_hardware.proofs.Held.{AreAside, IsInSide, InSides, side_of, on_axes, in_outward, in_side, in_slabs}

-- ---- the directions of a head are of length 1

-- whether the ends of a ratio are at most 1
abbrev is_unit : Ratio → Bool
is_unit x = nat_le (unsigned_abs x.low) 10000000 && nat_le (unsigned_abs x.high) 10000000

unit_if : (x : Ratio) → is_unit x ≡ true → IsUnit x
unit_if x h =
    let both = and_parts (nat_le (unsigned_abs x.low) 10000000) (nat_le (unsigned_abs x.high) 10000000) h in
    record { low = leb-true (unsigned_abs x.low) 10000000 both.0; high = leb-true (unsigned_abs x.high) 10000000 both.1 }

unit_at : (xs : List Ratio) (k : ℕ) (d : Ratio) → list_all is_unit xs ≡ true → IsUnit d → IsUnit (get_or xs k d)
unit_at [] k d all last = last
unit_at (x ∷ xs) zero d all last = unit_if x (and_parts (is_unit x) (list_all is_unit xs) all).0
unit_at (x ∷ xs) (suc k) d all last = unit_at xs k d (and_parts (is_unit x) (list_all is_unit xs) all).1 last

none_unit : IsUnit (just 0)
none_unit = unit_if (just 0) refl

quarter_unit : (k : ℕ) → IsUnit (quarter_cosine k)
quarter_unit k = unit_at cosines k (just 0) refl none_unit

negative_one : (z : ℤ) → unsigned_abs z ≤ 10000000 → unsigned_abs (neg_ℤ z) ≤ 10000000
negative_one z h = omega (arith, ints)

negative_unit : (x : Ratio) → IsUnit x → IsUnit (negative x)
negative_unit x h = record { low = negative_one x.high h.high; high = negative_one x.low h.low }

one_of_four : (a b c : Bool) (p q r s : Ratio) → IsUnit p → IsUnit q → IsUnit r → IsUnit s → IsUnit (if a then p else if b then q else if c then r else s)
one_of_four true b c p q r s hp hq hr hs = hp
one_of_four false true c p q r s hp hq hr hs = hq
one_of_four false false true p q r s hp hq hr hs = hr
one_of_four false false false p q r s hp hq hr hs = hs

within_unit : (k : ℤ) → IsUnit (cosine_within k)
within_unit k =
    one_of_four (int_le k (pos 12)) (int_le k (pos 24)) (int_le k (pos 36)) _ _ _ _ (quarter_unit (unsigned_abs k))
    (negative_unit (quarter_cosine (unsigned_abs (pos 24 -ℤ k))) (quarter_unit (unsigned_abs (pos 24 -ℤ k))))
    (negative_unit (quarter_cosine (unsigned_abs (k -ℤ pos 24))) (quarter_unit (unsigned_abs (k -ℤ pos 24)))) (quarter_unit (unsigned_abs (pos 48 -ℤ k)))

pub cosine_unit : (k : ℤ) → IsUnit (cosine k)
cosine_unit k = within_unit (int_rem_euclid k (pos 48))

floor_unit : (z : ℤ) → unsigned_abs z ≤ 100000000000000 → unsigned_abs (floor_one z) ≤ 10000000
floor_unit (pos n) h = omega (arith, h)
floor_unit (negsuc n) h = omega (arith, h)

ceil_unit : (z : ℤ) → unsigned_abs z ≤ 100000000000000 → unsigned_abs (ceil_one z) ≤ 10000000
ceil_unit z h = negative_one (floor_one (neg_ℤ z)) (floor_unit (neg_ℤ z) (turned z h))
  where
    turned : (z : ℤ) → unsigned_abs z ≤ 100000000000000 → unsigned_abs (neg_ℤ z) ≤ 100000000000000
    turned z h = omega (arith, ints)

product_unit : (x y : Ratio) → IsUnit x → IsUnit y → IsUnit (product x y)
product_unit x y p q =
    let a = unit_small x.low y.low p.low q.low in
    let b = unit_small x.low y.high p.low q.high in
    let c = unit_small x.high y.low p.high q.low in
    let d = unit_small x.high y.high p.high q.high in
    record {
      low = floor_unit (least_of (x.low *ℤ y.low) (x.low *ℤ y.high) (x.high *ℤ y.low) (x.high *ℤ y.high))
          (four_least (x.low *ℤ y.low) (x.low *ℤ y.high) (x.high *ℤ y.low) (x.high *ℤ y.high) _ _ _ 100000000000000 a b c d refl refl refl);
      high = ceil_unit (greatest_of (x.low *ℤ y.low) (x.low *ℤ y.high) (x.high *ℤ y.low) (x.high *ℤ y.high))
          (four_greatest (x.low *ℤ y.low) (x.low *ℤ y.high) (x.high *ℤ y.low) (x.high *ℤ y.high) _ _ _ 100000000000000 a b c d refl refl refl);
    }

turning_units : (a b : ℤ) (k i : Along) → IsUnit (towards (column (turning_by a b) k) i)
turning_units a b X X = cosine_unit b
turning_units a b X Y = cosine_unit (pos 12 -ℤ b)
turning_units a b X Z = none_unit
turning_units a b Y X = negative_unit (product (sine b) (cosine a)) (product_unit (sine b) (cosine a) (cosine_unit (pos 12 -ℤ b)) (cosine_unit a))
turning_units a b Y Y = product_unit (cosine b) (cosine a) (cosine_unit b) (cosine_unit a)
turning_units a b Y Z = negative_unit (sine a) (cosine_unit (pos 12 -ℤ a))
turning_units a b Z X = negative_unit (product (sine b) (sine a)) (product_unit (sine b) (sine a) (cosine_unit (pos 12 -ℤ b)) (cosine_unit (pos 12 -ℤ a)))
turning_units a b Z Y = product_unit (cosine b) (sine a) (cosine_unit b) (cosine_unit (pos 12 -ℤ a))
turning_units a b Z Z = cosine_unit a

-- ---- the ends of a part

aside_of : (f t : Place) → differs_once f t ≡ true → AreAside (axis_between f t) f t
aside_of f t once =
    by (int_eq f.x t.x) (int_eq f.y t.y) (int_eq f.z t.z) (λ h. sym ((Decides-int_eq f.x t.x).0 h)) (λ h. sym ((Decides-int_eq f.y t.y).0 h))
    (λ h. sym ((Decides-int_eq f.z t.z).0 h)) once
  where
    by : (x y z : Bool) → (x ≡ true → t.x ≡ f.x) → (y ≡ true → t.y ≡ f.y) → (z ≡ true → t.z ≡ f.z) → one_of_three x y z ≡ true
        → AreAside (if not x then X else if not y then Y else Z) f t
    by false true true ex ey ez h = (ey refl, ez refl)
    by true false true ex ey ez h = (ex refl, ez refl)
    by true true false ex ey ez h = (ex refl, ey refl)
    by false false true ex ey ez h = absurd (cc)
    by false true false ex ey ez h = absurd (cc)
    by false false false ex ey ez h = absurd (cc)
    by true false false ex ey ez h = absurd (cc)
    by true true true ex ey ez h = absurd (cc)

-- ---- all

both_some : (s n : ℕ) → 0 < s → 0 < n → 0 < s * n
both_some (suc s) (suc n) p q = omega arith
both_some zero n p q = absurd (omega arith)
both_some (suc s) zero p q = absurd (omega arith)

counted : (over under : ℤ) → 0 < over_up over under
counted over under = least (neg_ℤ (int_div_euclid (neg_ℤ over) under))
  where
    least : (x : ℤ) → 0 < unsigned_abs (int_max x (pos 1))
    least x = omega (arith, ints, clamps)

natural : (z : ℤ) → pos 0 ≤ℤ z → z ≡ pos (unsigned_abs z)
natural z h = omega (arith, ints)

module _ (a b : ℤ) (tip : Place) (part : Cylinder) (once : differs_once part.from part.to ≡ true) (round : pos 0 ≤ℤ part.diameter) (n : ℕ) (m : Along → Along → ℤ)
    (turn : IsTurn (turning_by a b) n m) (s : ℕ) (p : Along → ℤ) (about : IsAbout (axis_between part.from part.to) part s p) where
  beside : (i j : Along) → rows_give n i j ≡ pos 0 → rows_give n j i ≡ pos 0
      → IsInSide (s * n) (turned_place m s tip p i) (turned_place m s tip p j) (side_on (seen_from (turning_by a b) part tip) j i)
  beside i j ij ji =
      in_side (turning_by a b) (turning_units a b) n m turn (axis_between part.from part.to) part tip s (unsigned_abs part.diameter) p about
      (aside_of part.from part.to once) (natural part.diameter round) i j ij ji

  sides : (main : Along) (sides : Along → Side) → ((i : Along) → sides i ≡ side_on (seen_from (turning_by a b) part tip) main i)
      → InSides (s * n) (turned_place m s tip p) main sides
  sides X all is = (rw (is Y) (beside Y X refl refl), rw (is Z) (beside Z X refl refl))
  sides Y all is = (rw (is X) (beside X Y refl refl), rw (is Z) (beside Z Y refl refl))
  sides Z all is = (rw (is X) (beside X Z refl refl), rw (is Y) (beside Y Z refl refl))

  pub part_is_held : IsCovered (part_boxes (turning_by a b) tip part) (s * n) (turned_place m s tip p)
  part_is_held =
      let seen = seen_from (turning_by a b) part tip in
      let c = slabs_of seen in
      in_slabs (s * n) (both_some s n about.positive turn.positive) (turned_place m s tip p) c
      (counted ((c.range.high -ℤ c.range.low) *ℤ aside seen.direction c.main) (int_max (seen.step *ℤ least_size (wide (towards seen.direction c.main))) (pos 1)))
      (in_outward (turning_by a b) n m turn (axis_between part.from part.to) part tip s (unsigned_abs part.diameter) p about (aside_of part.from part.to once)
      (natural part.diameter round) c.main)
      (sides c.main (side_of c) (on_axes (λ i. side_of c i ≡ side_on seen c.main i) refl refl refl))

pub parts_are_held : PartsAreHeld
parts_are_held a b tip part once round n m turn s p about = part_is_held a b tip part once round n m turn s p about
