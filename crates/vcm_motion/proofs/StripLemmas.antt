-- The strips that a move's x range meets have each block that the move can meet.
use Rattle.std.proofs.Common.{◌≡◌, ◌&&◌, ℕ, ℤ, pos, negsuc, ◌+◌, ◌-◌, ◌/◌, ◌<◌, ◌≤◌, ◌+ℤ◌, ◌-ℤ◌, ◌≤ℤ◌, max, List, length, get_or, arith, ◌∙◌, true, Some, slice_get, slice_range, All}
use Rattle.std.proofs.lemmas.Grind.{common_steps, elements}
use Rattle.std.proofs.lemmas.Int.{ints, clamps, by_lt_z}
use Rattle.std.specs.Int.{int_min, int_max}
use Rattle.std.proofs.lemmas.Nat.{le-div}
use Rattle.std.specs.List.{list_all}
use Rattle.vcm_num.specs.Point.{coordinate, is_near, is_below}
use Rattle.vcm_spec.specs.declared.workpiece.Block3.{Block3}
use Rattle.vcm_spec.specs.Workpiece.{is_block}
use Rattle.vcm_spec.specs.Contact.{IsFraction, IsBetween, TipMeets}
use Rattle.std.proofs.lemmas.Bool.{and_parts}
use Rattle.vcm_motion.proofs.Inside.{block_at, below_each}
use Rattle.vcm_motion.specs.inner.Boxes.{IsSpan}
use Rattle.vcm_spec.proofs.Tips.{shared_between}
use Rattle.vcm_motion.proofs.BoxLemmas.{span_met}
use Rattle.vcm_motion.specs.Strips.{nat_part, rise, strip_at, start_of, first_strip, last_strip}
use Rattle.vcm_motion.specs.inner.Listed.{AreStrips, IsCovered}

nat_part_le : (y z : ℤ) → y ≤ℤ z → nat_part y ≤ nat_part z
nat_part_le (pos m) (pos n) h = omega (arith, ints)
nat_part_le (pos m) (negsuc n) h = absurd (omega (arith, ints))
nat_part_le (negsuc m) z h = omega arith

div_le : (m n w : ℕ) → 0 < w → m ≤ n → m / w ≤ n / w
div_le m n w h l = le-div (m / w) n w h (omega arith)

-- strips rise with x
pub strip_le : (low : ℤ) (width : ℕ) → 0 < width → (x y : ℤ) → x ≤ℤ y → strip_at low width x ≤ strip_at low width y
strip_le low width w x y l =
    let d = div_le (rise low x) (rise low y) width w (nat_part_le (x -ℤ low) (y -ℤ low) (omega (arith, ints))) in omega arith

cut_read : (xs : List ℕ) (a b k : ℕ) → a ≤ k → k < b → b ≤ length xs → (k - a < length (slice_range xs a b)) × (get_or (slice_range xs a b) (k - a) 0 ≡ get_or xs k 0)
cut_read xs a b k l h e = (grind (arith, common_steps), grind (arith, common_steps, elements))

cut_at : (xs : List ℕ) (a b k d : ℕ) → a ≤ b → b ≤ length xs → k < length (slice_range xs a b) → (a + k < length xs) × (get_or (slice_range xs a b) k d ≡ get_or xs (a + k) d)
cut_at xs a b k d l e h = (grind (arith, common_steps), grind (arith, common_steps, elements))

-- what is cut out of places is places
pub cut_places : (m : ℕ) (xs : List ℕ) (a b : ℕ) → a ≤ b → b ≤ length xs → All (λ i. i < m) xs → All (λ i. i < m) (slice_range xs a b)
cut_places m xs a b l e all k d h = let c = cut_at xs a b k d l e h in rw c.1 (all (a + k) d c.0)

-- the strips that the tip reaches at both ends of the move from x to y lie from first to last
pub record IsRange (low : ℤ) (width h : ℕ) (x y : ℤ) (first last : ℕ) : Type 0 where
  pub from_first : first ≤ strip_at low width (x -ℤ pos h)
  pub from_last : strip_at low width (x +ℤ pos h) ≤ last
  pub to_first : first ≤ strip_at low width (y -ℤ pos h)
  pub to_last : strip_at low width (y +ℤ pos h) ≤ last
  pub within : last ≤ 63
  pub sorted : first ≤ last

-- a block that the tip meets stands in one of them
met_strips : (low : ℤ) (width h : ℕ) → 0 < width → (p q near far : ℤ) (first last : ℕ) → IsRange low width h p q first last → (a b : ℕ) → IsFraction a b →
    IsBetween (near -ℤ pos h) (far +ℤ pos h) p q a b → (strip_at low width near ≤ last) × (first ≤ strip_at low width far)
met_strips low width h wide p q near far first last range a b f i =
    let r1 = range.from_first in
    let r2 = range.from_last in
    let r3 = range.to_first in
    let r4 = range.to_last in
    by_lt_z q p
    (λ l. let span : IsSpan p q q p = record { from_low = omega (arith, ints); from_high = omega (arith, ints); to_low = omega (arith, ints); to_high = omega (arith, ints) } in
    let met = span_met _ _ _ _ _ _ a b span f i in
    let one = strip_le low width wide near (p +ℤ pos h) (let e = met.0 in omega (arith, ints)) in
    let two = strip_le low width wide (q -ℤ pos h) far (let e = met.1 in omega (arith, ints)) in (omega arith, omega arith))
    (λ l. let span : IsSpan p q p q = record { from_low = omega (arith, ints); from_high = omega (arith, ints); to_low = omega (arith, ints); to_high = omega (arith, ints) } in
    let met = span_met _ _ _ _ _ _ a b span f i in
    let one = strip_le low width wide near (q +ℤ pos h) (let e = met.0 in omega (arith, ints)) in
    let two = strip_le low width wide (p -ℤ pos h) far (let e = met.1 in omega (arith, ints)) in (omega arith, omega arith))

-- the first and the last strip that the tip reaches
pub range_of : (low : ℤ) (width h : ℕ) → 0 < width → (x y : ℤ) → IsRange low width h x y (first_strip low width h x y) (last_strip low width h x y)
range_of low width h wide x y =
    let sorted = strip_le low width wide (int_min x y -ℤ pos h) (int_max x y +ℤ pos h) (omega (arith, ints, clamps)) in
    record {
      from_first = strip_le low width wide (int_min x y -ℤ pos h) (x -ℤ pos h) (omega (arith, ints, clamps));
      from_last = strip_le low width wide (x +ℤ pos h) (int_max x y +ℤ pos h) (omega (arith, ints, clamps));
      to_first = strip_le low width wide (int_min x y -ℤ pos h) (y -ℤ pos h) (omega (arith, ints, clamps));
      to_last = strip_le low width wide (y +ℤ pos h) (int_max x y +ℤ pos h) (omega (arith, ints, clamps));
      within = omega arith;
      sorted = sorted;
    }

-- the blocks are in order on the x axis
pub ordered_at : (blocks : List Block3) → list_all is_block blocks ≡ true → (j : ℕ) (block : Block3) → slice_get blocks j ≡ Some block → coordinate block.low 0 ≤ℤ coordinate block.high 0
ordered_at blocks all j block at = ordered block (block_at blocks j block all at)
  where
    ordered : (b : Block3) → is_block b ≡ true → coordinate b.low 0 ≤ℤ coordinate b.high 0
    ordered b e = let h = and_parts (is_near b.low && is_near b.high) (is_below (coordinate b.low) (coordinate b.high)) e in below_each (coordinate b.low) (coordinate b.high) h.1 0 (omega arith)

-- the places of the strips from first to last list each block that the tip can meet
pub strips_cover : (blocks : List Block3) → list_all is_block blocks ≡ true → (low : ℤ) (width : ℕ) (starts order : List ℕ) → AreStrips blocks low width starts order →
    (h : ℕ) (x y : ℕ → ℤ) (first last : ℕ) → IsRange low width h (x 0) (y 0) first last →
    IsCovered blocks (TipMeets h x y) (slice_range order (start_of starts first) (start_of starts (last + 1)))
strips_cover blocks all low width starts order strips h x y first last range j block at a b m =
    let met = met_strips low width h strips.wide (x 0) (y 0) _ _ first last range a b m.fraction (shared_between h _ _ _ _ a b (m.shared 0) (m.on_axis 0 (omega arith))) in
    let s = max (strip_at low width (coordinate block.low 0)) first in
    let three = range.sorted in
    let w = range.within in
    let four = strip_le low width strips.wide (coordinate block.low 0) (coordinate block.high 0) (ordered_at blocks all j block at) in
    let k = strips.each j block at s (omega arith) (omega arith) in
    let before = strips.rising first s (omega arith) (omega arith) in
    let after = strips.rising (s + 1) (last + 1) (omega arith) (omega arith) in
    let top = strips.rising (last + 1) 64 (omega arith) (omega arith) in
    let ends = strips.ends in
    let k_after = k.after in
    let k_before = k.before in
    let cut = cut_read order (start_of starts first) (start_of starts (last + 1)) k.place (omega arith) (omega arith) (omega arith) in
    record { place = k.place - start_of starts first; after = omega arith; before = cut.0; is = cut.1 ∙ k.is }
