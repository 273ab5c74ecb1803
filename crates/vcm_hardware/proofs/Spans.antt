-- What the code makes of a cylinder: ranges, slopes and slabs, step by step.
use Rattle.std.proofs.Common.{◌≡◌, ℕ, ℤ, pos, ◌≤◌, ◌+ℤ◌, ◌-ℤ◌, ◌*ℤ◌, ◌≤ℤ◌, Option, Some, arith, ap, refl, ◌∙◌}
use Rattle.std.specs.Int.{int_div_euclid, int_max}
use Rattle.std.proofs.lemmas.Int.{ints}
use Rattle.vcm_hardware.specs.declared.interval.Ratio.{Ratio}
use Rattle.vcm_hardware.specs.declared.interval.Interval.{Interval}
use Rattle.vcm_hardware.specs.declared.angle.Along.{Along}
use Rattle.vcm_hardware.specs.declared.angle.Along.TheVariants.{X, Y, Z}
use Rattle.vcm_hardware.specs.declared.cylinder.Seen.{Seen}
use Rattle.vcm_hardware.specs.declared.cylinder.Range.{Range}
use Rattle.vcm_hardware.specs.declared.cylinder.Leaning.{Leaning}
use Rattle.vcm_hardware.specs.declared.cylinder.Side.{Side}
use Rattle.vcm_hardware.specs.declared.cylinder.Slabs.{Slabs}
use Rattle.vcm_hardware.specs.Intervals.{middle, wide, least_size, less}
use Rattle.vcm_hardware.specs.Turned.{towards, coordinate_on}
use Rattle.vcm_hardware.specs.Slabs.{main_axis, half_width, hull, range_on, outward, slope_width, planes_of, quotient, planes, planes_back, side_on, aside, over_up, slab_count, slabs_of, cut_at, with_room}
use Rattle.vcm_hardware.specs.inner.Sizes.{IsWithin}

pub within_more : (n m : ℕ) (x : Interval) → n ≤ m → IsWithin n x → IsWithin m x
within_more n m x h w = record { low = omega (arith, w.low, h); high = omega (arith, w.high, h) }

pub range_on_is : (s : Seen) (i : Along) (d : Ratio) (w p q r : Interval) (l k o : ℤ) → d ≡ towards s.direction i → w ≡ wide d → l ≡ least_size w
    → k ≡ pos 100000000000000 -ℤ l *ℤ l → o ≡ half_width s.diameter k → p ≡ coordinate_on s.from i → q ≡ coordinate_on s.to i → r ≡ hull p q o → r ≡ range_on s i
range_on_is s i d w p q r l k o ed ew el ek eo ep eq er = rw (er, ep, eq, eo, ek, el, ew, ed) refl

pub slope_width_is : (s : Seen) (k i : Along) (slope : ℤ) (a b : Ratio) (p q r : Interval) (l m o : ℤ) → a ≡ towards s.direction i → b ≡ towards s.direction k → p ≡ wide a
    → q ≡ wide b → r ≡ less slope p q → l ≡ least_size r → m ≡ pos 100000000000000 +ℤ slope *ℤ slope -ℤ l *ℤ l → o ≡ half_width s.diameter m → o ≡ slope_width s k i slope
slope_width_is s k i slope a b p q r l m o ea eb ep eq er el em eo = rw (eo, em, el, er, ep, eq, ea, eb) refl

pub planes_of_is : (s : Seen) (k i : Along) (slope : ℤ) (p q r t u v h : Interval) (w : ℤ) → p ≡ coordinate_on s.from i → q ≡ coordinate_on s.from k → r ≡ less slope p q
    → t ≡ coordinate_on s.to i → u ≡ coordinate_on s.to k → v ≡ less slope t u → w ≡ slope_width s k i slope → h ≡ hull r v w
    → record { slope = slope; low = h.low; high = h.high } ≡ planes_of s k i slope
planes_of_is s k i slope p q r t u v h w ep eq er et eu ev ew eh = rw (eh, er, ev, ew, ep, eq, et, eu) refl

pub side_is : (s : Seen) (k i : Along) (a b : Ratio) (x y : ℤ) (r : Interval) (g : Range) (q p : Option ℤ) (f e : Option Leaning) → a ≡ towards s.direction i
    → b ≡ towards s.direction k → x ≡ middle a → y ≡ middle b → r ≡ range_on s i → g ≡ outward r → q ≡ quotient x y → f ≡ planes s k i q → p ≡ quotient y x
    → e ≡ planes_back s k i p → record { range = g; first = f; second = e } ≡ side_on s k i
side_is s k i a b x y r g q p f e ea eb ex ey er eg eq ef ep ee = rw (ef, ee, eq, ep, ex, ey, ea, eb, eg, er) refl

pub slab_count_is : (s : Seen) (k : Along) (range : Range) (a : Ratio) (w : Interval) (long surely run by out under : ℤ) (n : ℕ) → a ≡ towards s.direction k → w ≡ wide a
    → long ≡ range.high -ℤ range.low → surely ≡ least_size w → by ≡ s.step *ℤ surely → under ≡ int_max by (pos 1) → out ≡ aside s.direction k → run ≡ long *ℤ out
    → n ≡ over_up run under → n ≡ slab_count s k range
slab_count_is s k range a w long surely run by out under n ea ew eh es eb eu eo er en = rw (en, er, eu, eo, eb, eh, es, ew, ea) refl

abbrev slabs_along : Seen → Along → Slabs
slabs_along s k =
    let range = outward (range_on s k) in
    record { main = k; range = range; count = slab_count s k range; x = side_on s k X; y = side_on s k Y; z = side_on s k Z }

along_is : (s : Seen) (k : Along) (r : Interval) (g : Range) (n : ℕ) (x y z : Side) → r ≡ range_on s k → g ≡ outward r → n ≡ slab_count s k g → x ≡ side_on s k X
    → y ≡ side_on s k Y → z ≡ side_on s k Z → record { main = k; range = g; count = n; x = x; y = y; z = z } ≡ slabs_along s k
along_is s k r g n x y z er eg en ex ey ez = rw (ex, ey, ez, en, eg, er) refl

pub slabs_is : (s : Seen) (k : Along) (r : Interval) (g : Range) (n : ℕ) (x y z : Side) → k ≡ main_axis s.direction → r ≡ range_on s k → g ≡ outward r → n ≡ slab_count s k g
    → x ≡ side_on s k X → y ≡ side_on s k Y → z ≡ side_on s k Z → record { main = k; range = g; count = n; x = x; y = y; z = z } ≡ slabs_of s
slabs_is s k r g n x y z ek er eg en ex ey ez = along_is s k r g n x y z er eg en ex ey ez ∙ ap (slabs_along s) ek

pub cut_is : (range : Range) (n s : ℕ) (d w : ℤ) → d ≡ range.high -ℤ range.low → w ≡ int_div_euclid (pos s *ℤ d) (pos n) → (range.low +ℤ w) ≡ cut_at range n s
cut_is range n s d w ed ew = rw (ew, ed) refl

pub some_room : (x : Interval) → x.low ≤ℤ x.high → with_room x ≡ Some (record { low = x.low; high = x.high })
some_room x h = grind (arith, ints)
