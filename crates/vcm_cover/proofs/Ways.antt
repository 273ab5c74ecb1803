-- Ways out of regions.
use Rattle.std.proofs.Common.{◌≡◌, ℕ, ℤ, pos, ◌<◌, ◌*ℤ◌, ◌+ℤ◌, ◌≤ℤ◌, List, length, take, get_or, slice_get, Some, arith, subst}
use Rattle.std.specs.Int.{int_max, int_min}
use Rattle.std.specs.List.{All}
use Rattle.std.proofs.lemmas.Int.{ints, clamps}
use Rattle.std.proofs.lemmas.List.{get_or-take, get_or_default}
use Rattle.std.proofs.lemmas.Option.{get_or_from_slice_get, slice_get_within}
use Rattle.std.proofs.lemmas.Grind.{common_steps}
use lib.Signed.{◌<ℤ◌}
use Rattle.vcm_num.specs.Point.{coordinate}
use Rattle.vcm_spec.specs.declared.workpiece.Block3.{Block3}
use Rattle.vcm_covering.proofs.Apart.{up_scaled}
use Rattle.vcm_cover.specs.declared.region.Region.{Region}
use Rattle.vcm_cover.specs.Hollows.{IsPast, IsOutside, both_below, both_above, below_all, above_all, is_out, onward}
use Rattle.vcm_boxing.specs.Ranges.{numbers}
use Rattle.vcm_cover.specs.inner.Regions.{IsWithin, IsAside, after, before, IsOff, ends_before, begins_after, AreFrom, AreUpTo, AreAside, all_after, all_before, IsSharedOn, IsOverlap, IsWayOut}

-- the element at a place of a list
pub all_at : {X : Type 0} (P : X → Type 0) (xs : List X) → All P xs → (i : ℕ) (x : X) → slice_get xs i ≡ Some x → P x
all_at P xs all i x is = subst P (get_or_from_slice_get xs i x x is) (all i x (slice_get_within xs i x is))

less_up : (s : ℕ) (a b z : ℤ) → a ≤ℤ b → z <ℤ (pos s *ℤ a) → z <ℤ (pos s *ℤ b)
less_up s a b z le h = omega (arith, ints, up_scaled s a b le)

more_down : (s : ℕ) (a b z : ℤ) → a ≤ℤ b → (pos s *ℤ b) <ℤ z → (pos s *ℤ a) <ℤ z
more_down s a b z le h = omega (arith, ints, up_scaled s a b le)

-- a stretch apart from a block on an axis
pub aside : (g : Region) (b : Block3) (k : ℕ) → k < 3 → IsOff (numbers g.low k) (numbers g.high k) (coordinate b.low k) (coordinate b.high k) → IsAside g b
aside g b k lt (ends_before le) = after k lt le
aside g b k lt (begins_after le) = before k lt le

-- between two places of a region the straight way keeps off a block aside
past : (g : Region) (b : Block3) → IsAside g b → (s : ℕ) (x : ℕ → ℤ) (t : ℕ) (y : ℕ → ℤ) → IsWithin g s x → IsWithin g t y → IsPast b s x t y
past g b (after k lt le) s x t y in_x in_y =
    both_below k lt (less_up s (numbers g.high k) (coordinate b.low k) (x k) le (in_x.below_high k lt)) (less_up t (numbers g.high k) (coordinate b.low k) (y k) le (in_y.below_high k lt))
past g b (before k lt le) s x t y in_x in_y =
    both_above k lt (more_down s (coordinate b.high k) (numbers g.low k) (x k) le (in_x.above_low k lt)) (more_down t (coordinate b.high k) (numbers g.low k) (y k) le (in_y.above_low k lt))

-- places below or above all blocks
pub out_below : (blocks : List Block3) (k : ℕ) (at : ℤ) → k < 3 → AreFrom k at blocks → (s : ℕ) (x : ℕ → ℤ) → x k <ℤ (pos s *ℤ at) → IsOutside blocks s x
out_below blocks k at lt all s x h =
    below_all k lt (λ i block is. less_up s at (coordinate block.low k) (x k) (all_at (λ (b : Block3). at ≤ℤ coordinate b.low k) blocks all i block is) h)

pub out_above : (blocks : List Block3) (k : ℕ) (at : ℤ) → k < 3 → AreUpTo k at blocks → (s : ℕ) (x : ℕ → ℤ) → (pos s *ℤ at) <ℤ x k → IsOutside blocks s x
out_above blocks k at lt all s x h =
    above_all k lt (λ i block is. more_down s (coordinate block.high k) at (x k) (all_at (λ (b : Block3). coordinate b.high k ≤ℤ at) blocks all i block is) h)

-- a region aside of all blocks
pub out_aside : (blocks : List Block3) (g : Region) → AreAside g blocks → IsWayOut blocks g
out_aside blocks g (all_after k lt all) = record { leads = λ s x some i. is_out (out_below blocks k (numbers g.high k) lt all s x (i.below_high k lt)) }
out_aside blocks g (all_before k lt all) = record { leads = λ s x some i. is_out (out_above blocks k (numbers g.low k) lt all s x (i.above_low k lt)) }

-- a place that two regions share, counted in halves of a micrometre
shared : Region → Region → ℕ → ℤ
shared g h k = int_max (numbers g.low k) (numbers h.low k) +ℤ int_min (numbers g.high k) (numbers h.high k)

between : (l h m n : ℤ) → IsSharedOn l h m n → ((pos 2 *ℤ l) <ℤ (int_max l m +ℤ int_min h n)) × ((int_max l m +ℤ int_min h n) <ℤ (pos 2 *ℤ h)) × ((pos 2 *ℤ m) <ℤ (int_max l m +ℤ int_min h n)) × ((int_max l m +ℤ int_min h n) <ℤ (pos 2 *ℤ n))
between l h m n sh =
    let a = sh.own in
    let b = sh.other in
    let c = sh.left in
    let d = sh.right in
    (omega (arith, ints, clamps), omega (arith, ints, clamps), omega (arith, ints, clamps), omega (arith, ints, clamps))

in_first : (g h : Region) → IsOverlap g h → IsWithin g 2 (shared g h)
unfolding shared
in_first g h o = record {
  above_low = λ k lt. (between (numbers g.low k) (numbers g.high k) (numbers h.low k) (numbers h.high k) (o.on_axis k lt)).0;
  below_high = λ k lt. (between (numbers g.low k) (numbers g.high k) (numbers h.low k) (numbers h.high k) (o.on_axis k lt)).1;
}

in_second : (g h : Region) → IsOverlap g h → IsWithin h 2 (shared g h)
unfolding shared
in_second g h o = record {
  above_low = λ k lt. (between (numbers g.low k) (numbers g.high k) (numbers h.low k) (numbers h.high k) (o.on_axis k lt)).2;
  below_high = λ k lt. (between (numbers g.low k) (numbers g.high k) (numbers h.low k) (numbers h.high k) (o.on_axis k lt)).3;
}

-- a region that overlaps one from which a way leads out
pub through : (blocks : List Block3) (g h : Region) → All (IsAside g) blocks → IsOverlap g h → IsWayOut blocks h → IsWayOut blocks g
through blocks g h clear o out = record {
  leads = λ s x some i. onward (omega arith) (λ j block is. past g block (all_at (IsAside g) blocks clear j block is) s x 2 (shared g h) i (in_first g h o)) (out.leads 2 (shared g h) (omega arith) (in_second g h o));
}

-- a region that stands before another one in a list
pub earlier : {X : Type 0} (P : X → Type 0) (xs : List X) (i n : ℕ) (d : X) → i < n → n < length xs → All P (take n xs) → P (get_or xs i d)
earlier P xs i n d lt within all = subst P (get_or-take n xs i d lt) (all i d (grind (arith, common_steps)))

-- within a list an element doesn't depend on what stands for those past its end
pub whatever : {X : Type 0} (P : X → Type 0) (xs : List X) (i : ℕ) → i < length xs → (d : X) → P (get_or xs i d) → (e : X) → P (get_or xs i e)
whatever P xs i lt d h e = subst P (get_or_default xs i d e lt) h
