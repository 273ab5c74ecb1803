-- Numbers of a way and a block are small enough to be multiplied.
use Rattle.std.proofs.Common.{◌≡◌, ℕ, ℤ, pos, ◌*◌, ◌<◌, ◌≤◌, ◌+ℤ◌, ◌-ℤ◌, ◌*ℤ◌, to_z, of_z, w64, arith, FitsSigned, Bool, true, false, cond, List, [], ◌∷◌, ◌++◌, None, refl, sym, ap, ◌∙◌, subst}
use Rattle.std.specs.Prelude.{unsigned_abs, filter, if◌then◌else◌}
use Rattle.std.proofs.lemmas.Int.{ints, to_z-of_z, unsigned_abs-mul, fits_signed_mul}
use Rattle.std.proofs.Math.Nat.{mul-le-mul}
use mir.Syntax.{w128}
use Rattle.vcm_num.specs.Point.{coordinate, is_near, IsNear}
use Rattle.vcm_num.proofs.PointLemmas.{near_read}
use Rattle.vcm_spec.specs.FirstContact.{Fraction, fraction, crossings, meets, lesser, least, entry}
use Rattle.vcm_spec.specs.declared.workpiece.Block3.{Block3}
use Rattle.vcm_spec.specs.Workpiece.{is_block}
use Rattle.vcm_motion.proofs.Inside.{reachable, low_reachable, high_reachable}
use Rattle.vcm_carried.specs.Carried.{AreSides, IsBox, spread}
use Rattle.vcm_carried.proofs.Boxes.{spread_low, spread_high}
use Rattle.vcm_first_contact.specs.declared.entry.Pass.{Pass}
use Rattle.vcm_first_contact.specs.inner.Shares.{IsShort, IsProduct, IsPlace, IsSpreadFace, IsNearPass, reached_on, lesser_in, least_on}

-- ---- products

short_abs : (z : ℤ) → IsShort z → unsigned_abs z ≤ 2010000000
short_abs z h = let a = h.0 in let b = h.1 in omega (arith, ints, a, b)

from_abs : (z : ℤ) → unsigned_abs z ≤ 4040100000000000000 → IsProduct z
from_abs z h = (omega (arith, ints, h), omega (arith, ints, h))

pub times_fits : (n : ℕ) (z : ℤ) → n ≤ 2010000000 → IsShort z → FitsSigned w128 (pos n *ℤ z)
times_fits n z h k = fits_signed_mul w128 (pos n) z 2010000000 2010000000 h (short_abs z k) (omega arith)

pub times_small : (n : ℕ) (z : ℤ) → n ≤ 2010000000 → IsShort z → IsProduct (pos n *ℤ z)
times_small n z h k = from_abs (pos n *ℤ z) (by (unsigned_abs z) (unsigned_abs (pos n *ℤ z)) (unsigned_abs-mul (pos n) z) (mul-le-mul h (short_abs z k)))
  where
    by : (a p : ℕ) → p ≡ n * a → n * a ≤ 2010000000 * 2010000000 → p ≤ 4040100000000000000
    by a p e l = omega (arith, e, l)

-- sums of two
pub product_fits : (z : ℤ) → IsProduct z → FitsSigned w128 z
product_fits z h = let a = h.0 in let b = h.1 in omega (arith, ints, a, b)

pub sum_fits : (y z : ℤ) → IsProduct y → IsProduct z → FitsSigned w128 (y +ℤ z)
sum_fits y z h k =
    let a = h.0 in
    let b = h.1 in
    let c = k.0 in
    let d = k.1 in
    omega (arith, ints, a, b, c, d)

pub sum_small : (y z : ℤ) → IsProduct y → IsProduct z → IsPlace (y +ℤ z)
sum_small y z h k =
    let a = h.0 in
    let b = h.1 in
    let c = k.0 in
    let d = k.1 in
    (omega (arith, ints, a, b, c, d), omega (arith, ints, a, b, c, d))

-- ---- lengths

near_short : (z : ℤ) → IsNear z → IsShort z
near_short z h = let a = h.from_below in let b = h.from_above in (omega (arith, ints, a), omega (arith, ints, b))

face_short : (z : ℤ) → IsSpreadFace z → IsShort z
face_short z h = let a = h.from_below in let b = h.from_above in (omega (arith, ints, a), omega (arith, ints, b))

run_short : (p q : ℤ) → IsNear p → IsNear q → IsShort (q -ℤ p)
run_short p q h k =
    let a = h.from_below in
    let b = h.from_above in
    let c = k.from_below in
    let d = k.from_above in
    (omega (arith, ints, a, b, c, d), omega (arith, ints, a, b, c, d))

gap_short : (f p : ℤ) → IsSpreadFace f → IsNear p → IsShort (f -ℤ p)
gap_short f p h k =
    let a = h.from_below in
    let b = h.from_above in
    let c = k.from_below in
    let d = k.from_above in
    (omega (arith, ints, a, b, c, d), omega (arith, ints, a, b, c, d))

face_fits : (z : ℤ) → IsSpreadFace z → to_z w64 (of_z w64 z) ≡ z
face_fits z h = let a = h.from_below in let b = h.from_above in to_z-of_z w64 z (omega (arith, ints, a, b))

module _ (p : Pass) (h : IsNearPass p) (k : ℕ) (l : k < 3) where
  pub from_short : IsShort (coordinate p.from k)
  from_short = near_short _ (reachable p.from h.from k l)

  pub low_short : IsShort (coordinate p.block.low k)
  low_short = face_short _ (h.low k l)

  pub high_short : IsShort (coordinate p.block.high k)
  high_short = face_short _ (h.high k l)

  pub to_short : IsShort (coordinate p.to k -ℤ coordinate p.from k)
  to_short = run_short _ _ (reachable p.from h.from k l) (reachable p.to h.to k l)

  -- the parts of a fraction at which a face is reached
  pub den_small : (n : ℕ) → n ≡ unsigned_abs (to_z w64 (of_z w64 (coordinate p.to k)) -ℤ to_z w64 (of_z w64 (coordinate p.from k))) → n ≤ 2010000000
  den_small n e =
      let read : n ≡ unsigned_abs (coordinate p.to k -ℤ coordinate p.from k) = rw (near_read _ (reachable p.to h.to k l), near_read _ (reachable p.from h.from k l)) at e in
      let s = short_abs _ to_short in
      omega (arith, read, s)

  pub num_small : (f : ℤ) → IsSpreadFace f → (n : ℕ) → n ≡ unsigned_abs (to_z w64 (of_z w64 f) -ℤ to_z w64 (of_z w64 (coordinate p.from k))) → n ≤ 2010000000
  num_small f face n e =
      let read : n ≡ unsigned_abs (f -ℤ coordinate p.from k) = rw (face_fits f face, near_read _ (reachable p.from h.from k l)) at e in
      let s = short_abs _ (gap_short f _ face (reachable p.from h.from k l)) in
      omega (arith, read, s)

-- ---- corners

pub less_fits : (p q : ℤ) → IsNear p → IsNear q → FitsSigned w64 (to_z w64 (of_z w64 p) -ℤ to_z w64 (of_z w64 q))
less_fits p q h k = rw (near_read p h, near_read q k) (by p q h k)
  where
    by : (p q : ℤ) → IsNear p → IsNear q → FitsSigned w64 (p -ℤ q)
    by p q h k =
        let a = h.from_below in
        let b = h.from_above in
        let c = k.from_below in
        let d = k.from_above in
        omega (arith, ints, a, b, c, d)

pub less_read : (p q : ℤ) → IsNear p → IsNear q → to_z w64 (of_z w64 (to_z w64 (of_z w64 p) -ℤ to_z w64 (of_z w64 q))) ≡ p -ℤ q
less_read p q h k = rw (near_read p h, near_read q k) (by p q h k)
  where
    by : (p q : ℤ) → IsNear p → IsNear q → to_z w64 (of_z w64 (p -ℤ q)) ≡ p -ℤ q
    by p q h k =
        let a = h.from_below in
        let b = h.from_above in
        let c = k.from_below in
        let d = k.from_above in
        to_z-of_z w64 (p -ℤ q) (omega (arith, ints, a, b, c, d))

-- ---- the block that is grown by a box

face_of : (z l u : ℤ) → IsNear z → AreSides 10000000 l u → IsSpreadFace (z -ℤ u) × IsSpreadFace (z -ℤ l)
face_of z l u h s =
    let a = h.from_below in
    let b = h.from_above in
    let c = s.from_below in
    let d = s.order in
    let e = s.from_above in (
      record { from_below = omega (arith, ints, a, b, c, d, e); from_above = omega (arith, ints, a, b, c, d, e) },
      record { from_below = omega (arith, ints, a, b, c, d, e); from_above = omega (arith, ints, a, b, c, d, e) },
    )

pub spread_near : (box block : Block3) → IsBox 10000000 box → is_block block ≡ true → (p : Pass) → p.block ≡ spread box block → is_near p.from ≡ true → is_near p.to ≡ true → IsNearPass p
spread_near box block sides valid p e from to = record {
  from = from;
  to = to;
  low = λ k l. subst (λ (b : Block3). IsSpreadFace (coordinate b.low k)) (sym e) (subst IsSpreadFace (sym (spread_low box block k l)) (face_of _ _ _ (low_reachable block valid k l) (sides k l)).0);
  high = λ k l. subst (λ (b : Block3). IsSpreadFace (coordinate b.high k)) (sym e) (subst IsSpreadFace (sym (spread_high box block k l)) (face_of _ _ _ (high_reachable block valid k l) (sides k l)).1);
}

-- ---- the least of the fractions

-- the least of those of a list that pass a test, one after another
filtered : (ok : Fraction → Bool) (f : Fraction) (fs : List Fraction) → least (filter ok (f ∷ fs)) ≡ (if ok f then lesser f (least (filter ok fs)) else least (filter ok fs))
filtered ok f fs = by (ok f)
  where
    by : (t : Bool) → least (cond t (f ∷ filter ok fs) (filter ok fs)) ≡ (if t then lesser f (least (filter ok fs)) else least (filter ok fs))
    by true = refl
    by false = refl

-- on one axis
on_one : (p : Pass) (k : ℕ) (fs : List Fraction)
    → least (filter (meets (coordinate p.from) (coordinate p.to) p.block) (crossings (coordinate p.block.low k) (coordinate p.block.high k) (coordinate p.from k) (coordinate p.to k) ++ fs))
    ≡ least_on p k (least (filter (meets (coordinate p.from) (coordinate p.to) p.block) fs))
on_one p k fs =
    let ok : Fraction → Bool = meets (coordinate p.from) (coordinate p.to) p.block in
    let low = reached_on p (coordinate p.block.low k) k in
    let high = reached_on p (coordinate p.block.high k) k in
    filtered ok low (high ∷ fs) ∙ ap (lesser_in p low) (filtered ok high fs)

pub entry_is : (p : Pass) → lesser_in p (fraction 0 1) (least_on p 0 (least_on p 1 (least_on p 2 None))) ≡ entry (coordinate p.from) (coordinate p.to) p.block
entry_is p =
    let ok : Fraction → Bool = meets (coordinate p.from) (coordinate p.to) p.block in
    let on : ℕ → List Fraction = λ k. crossings (coordinate p.block.low k) (coordinate p.block.high k) (coordinate p.from k) (coordinate p.to k) in
    sym (
    filtered ok (fraction 0 1) (on 0 ++ on 1 ++ on 2)
    ∙ ap (lesser_in p (fraction 0 1)) (on_one p 0 (on 1 ++ on 2) ∙ ap (least_on p 0) (on_one p 1 (on 2) ∙ ap (least_on p 1) (on_one p 2 [])))
    )
