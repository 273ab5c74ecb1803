-- The boxes of a part hold it as it is turned.
use Rattle.std.proofs.Common.{◌≡◌, ℕ, ℤ, pos, negsuc, zero, suc, ◌+◌, ◌*◌, ◌/◌, ◌^◌, ◌<◌, ◌≤◌, ◌+ℤ◌, ◌-ℤ◌, ◌*ℤ◌, ◌≤ℤ◌, neg_ℤ, Bool, true, false, [], ◌∷◌, Option, Some, None, arith, ap, refl, sym, subst, ◌∙◌, add-one}
use Rattle.std.specs.Prelude.{unsigned_abs, int_lt, IfSome, Contains, if◌then◌else◌}
use Rattle.std.specs.Int.{int_div_euclid, int_min, int_max}
use Rattle.std.specs.Ordering.{int_eq}
use Rattle.std.specs.Option.{option_to_list}
use Rattle.std.proofs.Math.Nat.{mul-div_cancel_left}
use Rattle.std.proofs.lemmas.Int.{ints, clamps, by_lt_z}
use Rattle.std.proofs.lemmas.List.Elements.{Contains-append_left, Contains-append_right}
use lib.Signed.{◌<ℤ◌}
use Rattle.vcm_num.specs.Point.{point}
use Rattle.vcm_num.proofs.Ring.{mul-add, mul-add_three}
use Rattle.vcm_spec.specs.declared.workpiece.Block3.{Block3}
use Rattle.vcm_hardware.specs.declared.interval.Ratio.{Ratio}
use Rattle.vcm_hardware.specs.declared.interval.Interval.{Interval}
use Rattle.vcm_hardware.specs.declared.angle.Along.{Along}
use Rattle.vcm_hardware.specs.declared.angle.Along.TheVariants.{X, Y, Z}
use Rattle.vcm_hardware.specs.declared.angle.Turning.{Turning}
use Rattle.vcm_hardware.specs.declared.description.Place.{Place}
use Rattle.vcm_hardware.specs.declared.description.Cylinder.{Cylinder}
use Rattle.vcm_hardware.specs.declared.cylinder.Seen.{Seen}
use Rattle.vcm_hardware.specs.declared.cylinder.Range.{Range}
use Rattle.vcm_hardware.specs.declared.cylinder.Leaning.{Leaning}
use Rattle.vcm_hardware.specs.declared.cylinder.Side.{Side}
use Rattle.vcm_hardware.specs.declared.cylinder.Slabs.{Slabs}
use Rattle.vcm_hardware.specs.Intervals.{half_up, root_up, middle, wide, least_size, less}
use Rattle.vcm_hardware.specs.Turned.{towards, coordinate_on, column, turned}
use Rattle.vcm_hardware.specs.Slabs.{half_width, hull, one, range_on, outward, planes_of, nearest, quotient, planes, planes_back, side_on, cut_at, leans, both, between, with_room, reach, block_along, slab_of, slabs_behind, cylinder_boxes}
use Rattle.vcm_hardware.specs.inner.Sizes.{IsUnit}
use Rattle.vcm_hardware.specs.Holding.{place_on, over_axes, IsIn, IsTurn, rows_give, corner_on, way_from, IsAbout, turned_place, LiesIn, IsCovered}
use Rattle.vcm_hardware.proofs.Floors.{square_is}
use Rattle.vcm_hardware.proofs.Roots.{square_le}
use Rattle.vcm_hardware.proofs.Products.{mul-sub, swap, unscaled_le, trans, min_holds, max_holds, product_low, product_high}
use Rattle.vcm_hardware.proofs.Widths.{held, root_holds, root_size, half_holds}
use Rattle.vcm_hardware.proofs.Turns.{stretch_is, stretch_squares, lean, lean_is, lean_squares, way_between, turned_in, in_less, least_in, floor_in, ceil_in}

-- ---- a point of a part, from the tip and from the part's first end

shares : (a b c p q r : ℤ) → a ≡ p -ℤ q → b ≡ r -ℤ q → c ≡ p -ℤ r → a ≡ b +ℤ c
shares a b c p q r ea eb ec = omega (arith, ints)

-- a way in two parts, as a direction measures them
more_way : (g f t p : ℤ) → g *ℤ (t -ℤ p) ≡ g *ℤ (f -ℤ p) +ℤ g *ℤ (t -ℤ f)
more_way g f t p = shares _ _ _ (g *ℤ t) (g *ℤ p) (g *ℤ f) (mul-sub g t p) (mul-sub g f p) (mul-sub g t f)

point_way : (s : ℕ) (g p f t : ℤ) → g *ℤ (p -ℤ pos s *ℤ t) ≡ pos s *ℤ (g *ℤ (f -ℤ t)) +ℤ g *ℤ (p -ℤ pos s *ℤ f)
point_way s g p f t =
    shares _ _ _ (g *ℤ p) (pos s *ℤ (g *ℤ t)) (pos s *ℤ (g *ℤ f)) (mul-sub g p (pos s *ℤ t) ∙ ap (λ z. g *ℤ p -ℤ z) (swap g (pos s) t))
    (ap (λ z. pos s *ℤ z) (mul-sub g f t) ∙ mul-sub (pos s) (g *ℤ f) (g *ℤ t)) (mul-sub g p (pos s *ℤ f) ∙ ap (λ z. g *ℤ p -ℤ z) (swap g (pos s) f))

six : (a b c d e f g h i s : ℤ) → a ≡ d +ℤ g → b ≡ e +ℤ h → c ≡ f +ℤ i → s ≡ d +ℤ e +ℤ f → a +ℤ b +ℤ c ≡ s +ℤ (g +ℤ h +ℤ i)
six a b c d e f g h i s p q r t = omega (arith, ints)

pub point_is : (s : ℕ) (g p : Along → ℤ) (at tip : Place)
    → over_axes (λ i. g i *ℤ way_from s tip p i) ≡ pos s *ℤ over_axes (λ i. g i *ℤ way_between tip at i) +ℤ over_axes (λ i. g i *ℤ way_from s at p i)
point_is s g p at tip =
    six _ _ _ (pos s *ℤ (g X *ℤ (at.x -ℤ tip.x))) (pos s *ℤ (g Y *ℤ (at.y -ℤ tip.y))) (pos s *ℤ (g Z *ℤ (at.z -ℤ tip.z))) (g X *ℤ way_from s at p X)
    (g Y *ℤ way_from s at p Y) (g Z *ℤ way_from s at p Z) _ (point_way s (g X) (p X) at.x tip.x) (point_way s (g Y) (p Y) at.y tip.y) (point_way s (g Z) (p Z) at.z tip.z)
    (mul-add_three (pos s) (g X *ℤ (at.x -ℤ tip.x)) (g Y *ℤ (at.y -ℤ tip.y)) (g Z *ℤ (at.z -ℤ tip.z)))

-- the two ends of a part differ on its axis alone
abbrev pub AreAside : Along → Place → Place → Type 0
AreAside X f t = (t.y ≡ f.y) × (t.z ≡ f.z)
AreAside Y f t = (t.x ≡ f.x) × (t.z ≡ f.z)
AreAside Z f t = (t.x ≡ f.x) × (t.y ≡ f.y)

grown_x : (a b c d e f w : ℤ) → a ≡ d +ℤ w → b ≡ e → c ≡ f → a +ℤ b +ℤ c ≡ d +ℤ e +ℤ f +ℤ w
grown_x a b c d e f w p q r = omega (arith, ints)

grown_y : (a b c d e f w : ℤ) → a ≡ d → b ≡ e +ℤ w → c ≡ f → a +ℤ b +ℤ c ≡ d +ℤ e +ℤ f +ℤ w
grown_y a b c d e f w p q r = omega (arith, ints)

grown_z : (a b c d e f w : ℤ) → a ≡ d → b ≡ e → c ≡ f +ℤ w → a +ℤ b +ℤ c ≡ d +ℤ e +ℤ f +ℤ w
grown_z a b c d e f w p q r = omega (arith, ints)

end_is : (a : Along) (g : Along → ℤ) (f t tip : Place) → AreAside a f t
    → over_axes (λ i. g i *ℤ way_between tip t i) ≡ over_axes (λ i. g i *ℤ way_between tip f i) +ℤ g a *ℤ (place_on t a -ℤ place_on f a)
end_is X g f t tip same =
    grown_x _ _ _ (g X *ℤ (f.x -ℤ tip.x)) _ _ (g X *ℤ (t.x -ℤ f.x)) (more_way (g X) f.x t.x tip.x) (ap (λ z. g Y *ℤ (z -ℤ tip.y)) same.0) (ap (λ z. g Z *ℤ (z -ℤ tip.z)) same.1)
end_is Y g f t tip same =
    grown_y _ _ _ _ (g Y *ℤ (f.y -ℤ tip.y)) _ (g Y *ℤ (t.y -ℤ f.y)) (ap (λ z. g X *ℤ (z -ℤ tip.x)) same.0) (more_way (g Y) f.y t.y tip.y) (ap (λ z. g Z *ℤ (z -ℤ tip.z)) same.1)
end_is Z g f t tip same =
    grown_z _ _ _ _ _ (g Z *ℤ (f.z -ℤ tip.z)) (g Z *ℤ (t.z -ℤ f.z)) (ap (λ z. g X *ℤ (z -ℤ tip.x)) same.0) (ap (λ z. g Y *ℤ (z -ℤ tip.y)) same.1) (more_way (g Z) f.z t.z tip.z)

min_from : (f t : ℤ) → int_min f t ≡ f +ℤ int_min (pos 0) (t -ℤ f)
min_from f t = omega (arith, ints, clamps)

max_from : (f t : ℤ) → int_max f t ≡ f +ℤ int_max (pos 0) (t -ℤ f)
max_from f t = omega (arith, ints, clamps)

less_low : (a b c p : ℤ) → a ≡ b +ℤ c → a ≤ℤ p → c ≤ℤ (p -ℤ b)
less_low a b c p e h = omega (arith, ints)

less_high : (a b c p : ℤ) → a ≡ b +ℤ c → p ≤ℤ a → (p -ℤ b) ≤ℤ c
less_high a b c p e h = omega (arith, ints)

way_low : (s : ℕ) (f t p : ℤ) → (pos s *ℤ int_min f t) ≤ℤ p → (pos s *ℤ int_min (pos 0) (t -ℤ f)) ≤ℤ (p -ℤ pos s *ℤ f)
way_low s f t p h = less_low _ (pos s *ℤ f) (pos s *ℤ int_min (pos 0) (t -ℤ f)) p (ap (λ z. pos s *ℤ z) (min_from f t) ∙ mul-add (pos s) f (int_min (pos 0) (t -ℤ f))) h

way_high : (s : ℕ) (f t p : ℤ) → p ≤ℤ (pos s *ℤ int_max f t) → (p -ℤ pos s *ℤ f) ≤ℤ (pos s *ℤ int_max (pos 0) (t -ℤ f))
way_high s f t p h = less_high _ (pos s *ℤ f) (pos s *ℤ int_max (pos 0) (t -ℤ f)) p (ap (λ z. pos s *ℤ z) (max_from f t) ∙ mul-add (pos s) f (int_max (pos 0) (t -ℤ f))) h

pub near_number : (b c m : ℤ) (s d : ℕ) → m ≡ pos d → (pos 4 *ℤ (b *ℤ b +ℤ c *ℤ c)) ≤ℤ ((pos s *ℤ m) *ℤ (pos s *ℤ m))
    → 4 * (unsigned_abs b * unsigned_abs b + unsigned_abs c * unsigned_abs c) ≤ (s * d) * (s * d)
near_number b c m s d e h =
    let k : (pos (4 * (unsigned_abs b * unsigned_abs b + unsigned_abs c * unsigned_abs c))) ≤ℤ pos ((s * d) * (s * d)) = rw (square_is b, square_is c, e) at h in
    omega (arith, ints, k)

first_y : (a b c k : ℕ) → a + b + c ≡ k → b + a + c ≡ k
first_y a b c k e = omega (arith, e)

first_z : (a b c k : ℕ) → a + b + c ≡ k → c + a + b ≡ k
first_z a b c k e = omega (arith, e)

sum_x : (v f x y z : ℤ) → v ≡ f +ℤ (x +ℤ y +ℤ z) → (f +ℤ x) +ℤ (y +ℤ z) ≡ v
sum_x v f x y z e = omega (arith, ints)

sum_y : (v f x y z : ℤ) → v ≡ f +ℤ (x +ℤ y +ℤ z) → (f +ℤ y) +ℤ (x +ℤ z) ≡ v
sum_y v f x y z e = omega (arith, ints)

sum_z : (v f x y z : ℤ) → v ≡ f +ℤ (x +ℤ y +ℤ z) → (f +ℤ z) +ℤ (x +ℤ y) ≡ v
sum_z v f x y z e = omega (arith, ints)

-- what a direction g measures at a point of the part lies as far round what it measures at its ends
held_by : (a : Along) (c : Cylinder) (tip : Place) (s n d k l r w : ℕ) (p g : Along → ℤ) (x y : Interval) → IsAbout a c s p → AreAside a c.from c.to → c.diameter ≡ pos d
    → unsigned_abs (g X) * unsigned_abs (g X) + unsigned_abs (g Y) * unsigned_abs (g Y) + unsigned_abs (g Z) * unsigned_abs (g Z) ≡ n * n * k
    → n * l ≤ unsigned_abs (g a) → k ≤ l * l + r * r → d * r ≤ 2 * w
    → IsIn n (over_axes (λ i. g i *ℤ way_between tip c.from i)) x → IsIn n (over_axes (λ i. g i *ℤ way_between tip c.to i)) y
    → IsIn (s * n) (over_axes (λ i. g i *ℤ way_from s tip p i)) (hull x y (pos w))
held_by X c tip s n d k l r w p g x y about aside e whole surely root half from to =
    let q = way_from s c.from p in
    subst (λ (z : ℤ). IsIn (s * n) z (hull x y (pos w))) (sum_x _ (pos s *ℤ over_axes (λ i. g i *ℤ way_between tip c.from i)) (g X *ℤ q X) (g Y *ℤ q Y) (g Z *ℤ q Z) (point_is s g p c.from tip))
    (held n s d r w k l (g X) (g Y) (g Z) (q X) (q Y) (q Z) (over_axes (λ i. g i *ℤ way_between tip c.from i)) (over_axes (λ i. g i *ℤ way_between tip c.to i))
    (c.to.x -ℤ c.from.x) x y whole surely (near_number (q Y) (q Z) c.diameter s d e about.near) root half from to (end_is X g c.from c.to tip aside)
    (way_low s c.from.x c.to.x (p X) about.from_low) (way_high s c.from.x c.to.x (p X) about.to_high))
held_by Y c tip s n d k l r w p g x y about aside e whole surely root half from to =
    let q = way_from s c.from p in
    subst (λ (z : ℤ). IsIn (s * n) z (hull x y (pos w))) (sum_y _ (pos s *ℤ over_axes (λ i. g i *ℤ way_between tip c.from i)) (g X *ℤ q X) (g Y *ℤ q Y) (g Z *ℤ q Z) (point_is s g p c.from tip))
    (held n s d r w k l (g Y) (g X) (g Z) (q Y) (q X) (q Z) (over_axes (λ i. g i *ℤ way_between tip c.from i)) (over_axes (λ i. g i *ℤ way_between tip c.to i))
    (c.to.y -ℤ c.from.y) x y (first_y (unsigned_abs (g X) * unsigned_abs (g X)) (unsigned_abs (g Y) * unsigned_abs (g Y)) (unsigned_abs (g Z) * unsigned_abs (g Z)) (n * n * k) whole) surely (near_number (q X) (q Z) c.diameter s d e about.near) root half from to
    (end_is Y g c.from c.to tip aside) (way_low s c.from.y c.to.y (p Y) about.from_low) (way_high s c.from.y c.to.y (p Y) about.to_high))
held_by Z c tip s n d k l r w p g x y about aside e whole surely root half from to =
    let q = way_from s c.from p in
    subst (λ (z : ℤ). IsIn (s * n) z (hull x y (pos w))) (sum_z _ (pos s *ℤ over_axes (λ i. g i *ℤ way_between tip c.from i)) (g X *ℤ q X) (g Y *ℤ q Y) (g Z *ℤ q Z) (point_is s g p c.from tip))
    (held n s d r w k l (g Z) (g X) (g Y) (q Z) (q X) (q Y) (over_axes (λ i. g i *ℤ way_between tip c.from i)) (over_axes (λ i. g i *ℤ way_between tip c.to i))
    (c.to.z -ℤ c.from.z) x y (first_z (unsigned_abs (g X) * unsigned_abs (g X)) (unsigned_abs (g Y) * unsigned_abs (g Y)) (unsigned_abs (g Z) * unsigned_abs (g Z)) (n * n * k) whole) surely (near_number (q X) (q Y) c.diameter s d e about.near) root half from to
    (end_is Z g c.from c.to tip aside) (way_low s c.from.z c.to.z (p Z) about.from_low) (way_high s c.from.z c.to.z (p Z) about.to_high))

-- ---- the width, as the definitions have it

width_is : (m z : ℤ) (d : ℕ) → m ≡ pos d → half_width m z ≡ pos (unsigned_abs (half_up (pos (d * unsigned_abs (root_up z)))))
width_is m z d e =
    ap (λ x. half_up (x *ℤ root_up z)) e ∙ ap (λ x. half_up (pos d *ℤ x)) (root_size z) ∙ (half_holds (d * unsigned_abs (root_up z))).0

pub under_root : (k j : ℕ) (z : ℤ) → z ≡ pos k -ℤ pos j → k < 2 ^ 128 → k ≤ j + unsigned_abs (root_up z) * unsigned_abs (root_up z)
under_root k j z e fits = by z (unsigned_abs (root_up z) * unsigned_abs (root_up z)) e (root_holds z (small z e fits))
  where
    small : (z : ℤ) → z ≡ pos k -ℤ pos j → k < 2 ^ 128 → z <ℤ pos (2 ^ 128)
    small z e fits = omega (arith, ints)

    by : (z : ℤ) (r : ℕ) → z ≡ pos k -ℤ pos j → z ≤ℤ pos r → k ≤ j + r
    by z r e h = omega (arith, ints)

-- a range, and what lies between two planes, as intervals
abbrev pub span : Range → Interval
span r = record { low = r.low; high = r.high }

abbrev pub layer : Leaning → Interval
layer p = record { low = p.low; high = p.high }

-- ---- a part seen from the tip: a point of it lies in its range, and between its planes

pub same_row : (n : ℕ) (i : Along) → rows_give n i i ≡ pos (n * n)
same_row n X = refl
same_row n Y = refl
same_row n Z = refl

module _ (t : Turning) (n : ℕ) (m : Along → Along → ℤ) (turn : IsTurn t n m) (a : Along) (c : Cylinder) (tip : Place) (s d : ℕ) (p : Along → ℤ)
    (about : IsAbout a c s p) (aside : AreAside a c.from c.to) (round : c.diameter ≡ pos d) where
  abbrev seen : Seen
  seen = record { direction = column t a; from = turned t c.from tip; to = turned t c.to tip; diameter = c.diameter; step = c.step }

  in_range : (i : Along) → IsIn (s * n) (pos 10000000 *ℤ turned_place m s tip p i) (range_on seen i)
  in_range i =
      let u = λ (k : Along). m k i in
      let g = λ (k : Along). pos 10000000 *ℤ m k i in
      let least = least_size (wide (towards (column t a) i)) in
      let square = one -ℤ least *ℤ least in
      let l = unsigned_abs least in
      let r = unsigned_abs (root_up square) in
      let w = unsigned_abs (half_up (pos (d * r))) in
      let whole = stretch_squares n u (turn.rows i i ∙ same_row n i) in
      let surely = least_in n (pos 10000000 *ℤ m a i) (wide (towards (column t a) i)) (turn.within a i) in
      let under = under_root 100000000000000 (l * l) square (ap (λ z. one -ℤ z) (square_is least)) (omega arith) in
      let from = subst (λ (z : ℤ). IsIn n z (coordinate_on (turned t c.from tip) i)) (sym (stretch_is (pos 10000000) u (way_between tip c.from)))
      (turned_in t n m turn c.from tip i) in
      let to = subst (λ (z : ℤ). IsIn n z (coordinate_on (turned t c.to tip) i)) (sym (stretch_is (pos 10000000) u (way_between tip c.to)))
      (turned_in t n m turn c.to tip i) in
      let all = held_by a c tip s n d 100000000000000 l r w p g (coordinate_on (turned t c.from tip) i) (coordinate_on (turned t c.to tip) i) about aside round whole
      surely under (half_holds (d * r)).1 from to in
      subst (λ (z : ℤ). IsIn (s * n) z (range_on seen i)) (stretch_is (pos 10000000) u (way_from s tip p))
      (subst (λ (z : ℤ). IsIn (s * n) (over_axes (λ k. g k *ℤ way_from s tip p k)) (hull (coordinate_on (turned t c.from tip) i) (coordinate_on (turned t c.to tip) i) z))
      (sym (width_is c.diameter square d round)) all)

  pub in_outward : (i : Along) → IsIn (s * n) (turned_place m s tip p i) (span (outward (range_on seen i)))
  in_outward i =
      let h = in_range i in
      record { low = floor_in (s * n) (turned_place m s tip p i) (range_on seen i).low h.low; high = ceil_in (s * n) (turned_place m s tip p i) (range_on seen i).high h.high }

  in_planes : (i j : Along) (l : ℤ) → rows_give n i j ≡ pos 0 → rows_give n j i ≡ pos 0 → unsigned_abs l ≤ 400000020000000
      → IsIn (s * n) (pos 10000000 *ℤ turned_place m s tip p i -ℤ l *ℤ turned_place m s tip p j) (layer (planes_of seen j i l))
  in_planes i j l ij ji small =
      let u = λ (k : Along). m k i in
      let v = λ (k : Along). m k j in
      let g = lean (pos 10000000) l u v in
      let x = less l (coordinate_on (turned t c.from tip) i) (coordinate_on (turned t c.from tip) j) in
      let o = less l (coordinate_on (turned t c.to tip) i) (coordinate_on (turned t c.to tip) j) in
      let along = less l (wide (towards (column t a) i)) (wide (towards (column t a) j)) in
      let least = least_size along in
      let square = one +ℤ l *ℤ l -ℤ least *ℤ least in
      let k = 100000000000000 + unsigned_abs l * unsigned_abs l in
      let q = unsigned_abs least in
      let r = unsigned_abs (root_up square) in
      let w = unsigned_abs (half_up (pos (d * r))) in
      let whole = lean_squares n l u v (turn.rows i i ∙ same_row n i) (turn.rows i j ∙ ij) (turn.rows j i ∙ ji) (turn.rows j j ∙ same_row n j) in
      let surely = least_in n (pos 10000000 *ℤ m a i -ℤ l *ℤ m a j) along (in_less n l (m a i) (m a j) _ _ (turn.within a i) (turn.within a j)) in
      let fits : k < 2 ^ 128 = omega (arith, square_le (unsigned_abs l) 400000020000000 small) in
      let under = under_root k (q * q) square (rw (square_is l, square_is least) refl) fits in
      let from = subst (λ (z : ℤ). IsIn n z x) (sym (lean_is (pos 10000000) l u v (way_between tip c.from)))
      (in_less n l (over_axes (λ b. u b *ℤ way_between tip c.from b)) (over_axes (λ b. v b *ℤ way_between tip c.from b)) _ _ (turned_in t n m turn c.from tip i)
      (turned_in t n m turn c.from tip j)) in
      let to = subst (λ (z : ℤ). IsIn n z o) (sym (lean_is (pos 10000000) l u v (way_between tip c.to)))
      (in_less n l (over_axes (λ b. u b *ℤ way_between tip c.to b)) (over_axes (λ b. v b *ℤ way_between tip c.to b)) _ _ (turned_in t n m turn c.to tip i)
      (turned_in t n m turn c.to tip j)) in
      let all = held_by a c tip s n d k q r w p g x o about aside round whole surely under (half_holds (d * r)).1 from to in
      subst (λ (z : ℤ). IsIn (s * n) z (layer (planes_of seen j i l))) (lean_is (pos 10000000) l u v (way_from s tip p))
      (subst (λ (z : ℤ). IsIn (s * n) (over_axes (λ b. g b *ℤ way_from s tip p b)) (hull x o z)) (sym (width_is c.diameter square d round)) all)

-- ---- the planes of a side

-- v on an axis and w on the main one, counted in b-ths, lie in a side
pub record IsInSide (b : ℕ) (v w : ℤ) (side : Side) : Type 0 where
  pub range : IsIn b v (span side.range)
  pub first : IfSome side.first (λ p. IsIn b (pos 10000000 *ℤ v -ℤ p.slope *ℤ w) (layer p))
  pub second : IfSome side.second (λ p. IsIn b (pos 10000000 *ℤ v -ℤ p.slope *ℤ w) (layer p))

divided : (z d : ℤ) → unsigned_abs (int_div_euclid z d) ≤ unsigned_abs z
divided (pos a) (pos b) = omega arith
divided (pos a) (negsuc b) = omega (arith, ints)
divided (negsuc a) (pos b) = omega arith
divided (negsuc a) (negsuc b) = omega arith

nearest_small : (over under : ℤ) → unsigned_abs over ≤ 20000000 → unsigned_abs under ≤ 20000000 → unsigned_abs (nearest over under) ≤ 400000020000000
nearest_small over under p q = by (divided (pos 20000000 *ℤ over +ℤ under) (pos 2 *ℤ under)) (bound over under p q)
  where
    by : {a b : ℕ} → a ≤ b → b ≤ 400000020000000 → a ≤ 400000020000000
    by h k = omega (arith, h, k)

    bound : (o u : ℤ) → unsigned_abs o ≤ 20000000 → unsigned_abs u ≤ 20000000 → unsigned_abs (pos 20000000 *ℤ o +ℤ u) ≤ 400000020000000
    bound o u p q = omega (arith, ints)

negative_small : (z : ℤ) (k : ℕ) → unsigned_abs z ≤ k → unsigned_abs (neg_ℤ z) ≤ k
negative_small z k h = omega (arith, ints)

quotient_small : (over under : ℤ) → unsigned_abs over ≤ 20000000 → unsigned_abs under ≤ 20000000 → IfSome (quotient over under) (λ l. unsigned_abs l ≤ 400000020000000)
quotient_small over under p q = by (int_eq under (pos 0)) (int_lt under (pos 0))
  where
    by : (e l : Bool) → IfSome (if e then None else if l then Some (nearest (neg_ℤ over) (neg_ℤ under)) else Some (nearest over under)) (λ l. unsigned_abs l ≤ 400000020000000)
    by true l = tt
    by false true = nearest_small (neg_ℤ over) (neg_ℤ under) (negative_small over 20000000 p) (negative_small under 20000000 q)
    by false false = nearest_small over under p q

middle_small : (x : Ratio) → IsUnit x → unsigned_abs (middle x) ≤ 20000000
middle_small x h = by (divided (x.low +ℤ x.high) (pos 2)) (bound x.low x.high h.low h.high)
  where
    by : {a b : ℕ} → a ≤ b → b ≤ 20000000 → a ≤ 20000000
    by h k = omega (arith, h, k)

    bound : (o u : ℤ) → unsigned_abs o ≤ 10000000 → unsigned_abs u ≤ 10000000 → unsigned_abs (o +ℤ u) ≤ 20000000
    bound o u p q = omega (arith, ints)

module _ (t : Turning) (units : (k i : Along) → IsUnit (towards (column t k) i)) (n : ℕ) (m : Along → Along → ℤ) (turn : IsTurn t n m) (a : Along) (c : Cylinder)
    (tip : Place) (s d : ℕ) (p : Along → ℤ) (about : IsAbout a c s p) (aside : AreAside a c.from c.to) (round : c.diameter ≡ pos d) where
  abbrev seen_part : Seen
  seen_part = record { direction = column t a; from = turned t c.from tip; to = turned t c.to tip; diameter = c.diameter; step = c.step }

  in_first : (i j : Along) → rows_give n i j ≡ pos 0 → rows_give n j i ≡ pos 0 → (o : Option ℤ) → IfSome o (λ l. unsigned_abs l ≤ 400000020000000)
      → IfSome (planes seen_part j i o) (λ q. IsIn (s * n) (pos 10000000 *ℤ turned_place m s tip p i -ℤ q.slope *ℤ turned_place m s tip p j) (layer q))
  in_first i j ij ji None small = tt
  in_first i j ij ji (Some l) small = in_planes t n m turn a c tip s d p about aside round i j l ij ji small

  in_second : (i j : Along) → rows_give n i j ≡ pos 0 → rows_give n j i ≡ pos 0 → (o : Option ℤ) → IfSome o (λ l. unsigned_abs l ≤ 400000020000000)
      → IfSome (planes_back seen_part j i o) (λ q. IsIn (s * n) (pos 10000000 *ℤ turned_place m s tip p i -ℤ q.slope *ℤ turned_place m s tip p j) (layer q))
  in_second i j ij ji None small = tt
  in_second i j ij ji (Some l) small = in_planes t n m turn a c tip s d p about aside round i j (neg_ℤ l) ij ji (negative_small l 400000020000000 small)

  pub in_side : (i j : Along) → rows_give n i j ≡ pos 0 → rows_give n j i ≡ pos 0
      → IsInSide (s * n) (turned_place m s tip p i) (turned_place m s tip p j) (side_on seen_part j i)
  in_side i j ij ji =
      let own = middle_small (towards (column t a) i) (units a i) in
      let other = middle_small (towards (column t a) j) (units a j) in
      record {
        range = in_outward t n m turn a c tip s d p about aside round i;
        first = in_first i j ij ji (quotient (middle (towards (column t a) i)) (middle (towards (column t a) j))) (quotient_small (middle (towards (column t a) i)) (middle (towards (column t a) j)) own other);
        second = in_second i j ij ji (quotient (middle (towards (column t a) j)) (middle (towards (column t a) i))) (quotient_small (middle (towards (column t a) j)) (middle (towards (column t a) i)) other own);
      }

-- ---- what is left between two cuts

module _ (b : ℕ) (some : 0 < b) (v w : ℤ) (z : Range) (there : IsIn b w (span z)) where
  below_planes : (e l v w q : ℤ) → q ≤ℤ (e -ℤ l) → w ≤ℤ l → (q +ℤ w) ≤ℤ e
  below_planes e l v w q h k = omega (arith, ints)

  above_planes : (e l w q : ℤ) → (e -ℤ l) ≤ℤ q → l ≤ℤ w → e ≤ℤ (q +ℤ w)
  above_planes e l w q h k = omega (arith, ints)

  in_leans : (q : Leaning) → IsIn b (pos 10000000 *ℤ v -ℤ q.slope *ℤ w) (layer q) → IsIn b v (leans q z)
  in_leans q h =
      let least = int_min (q.slope *ℤ z.low) (q.slope *ℤ z.high) in
      let most = int_max (q.slope *ℤ z.low) (q.slope *ℤ z.high) in
      record {
        low = floor_in b v (q.low +ℤ least) (subst (λ (x : ℤ). x ≤ℤ (pos 10000000 *ℤ v)) (sym (mul-add (pos b) q.low least))
            (below_planes (pos 10000000 *ℤ v) (q.slope *ℤ w) v (pos b *ℤ least) (pos b *ℤ q.low) h.low (product_low q.slope z.low z.high w b there.low there.high)));
        high = ceil_in b v (q.high +ℤ most) (subst (λ (x : ℤ). (pos 10000000 *ℤ v) ≤ℤ x) (sym (mul-add (pos b) q.high most))
            (above_planes (pos 10000000 *ℤ v) (q.slope *ℤ w) (pos b *ℤ most) (pos b *ℤ q.high) h.high (product_high q.slope z.low z.high w b there.low there.high)));
      }

  in_both : (x o : Interval) → IsIn b v x → IsIn b v o → IsIn b v (both x o)
  in_both x o p q = record {
    low = max_holds (λ k. (pos b *ℤ k) ≤ℤ v) x.low o.low p.low q.low;
    high = min_holds (λ k. v ≤ℤ (pos b *ℤ k)) x.high o.high p.high q.high;
  }

  in_between : (x : Interval) (o : Option Leaning) → IsIn b v x → IfSome o (λ q. IsIn b (pos 10000000 *ℤ v -ℤ q.slope *ℤ w) (layer q)) → IsIn b v (between x o z)
  in_between x None p h = p
  in_between x (Some q) p h = in_both x (leans q z) p (in_leans q h)

  not_under : (x y : ℤ) → x ≤ℤ y → int_lt y x ≡ false
  not_under x y h = grind (arith, ints)

  has_room : (x : Interval) → IsIn b v x → with_room x ≡ Some (record { low = x.low; high = x.high })
  has_room x h = rw (not_under x.low x.high (unscaled_le b x.low x.high some (trans _ _ _ h.low h.high))) refl

  pub in_reach : (side : Side) → IsInSide b v w side → (r : Range) × (reach side z ≡ Some r) × IsIn b v (span r)
  in_reach side h =
      let x = between (between (span side.range) side.first z) side.second z in
      let inside = in_between (between (span side.range) side.first z) side.second (in_between (span side.range) side.first h.range h.first) h.second in
      (record { low = x.low; high = x.high }, has_room x inside, record { low = inside.low; high = inside.high })

-- ---- the slabs

-- a place lies in the sides beside the main axis
abbrev pub InSides : ℕ → (Along → ℤ) → Along → (Along → Side) → Type 0
InSides b y X sides = IsInSide b (y Y) (y X) (sides Y) × IsInSide b (y Z) (y X) (sides Z)
InSides b y Y sides = IsInSide b (y X) (y Y) (sides X) × IsInSide b (y Z) (y Y) (sides Z)
InSides b y Z sides = IsInSide b (y X) (y Z) (sides X) × IsInSide b (y Y) (y Z) (sides Y)

abbrev pub side_of : Slabs → Along → Side
side_of c X = c.x
side_of c Y = c.y
side_of c Z = c.z

-- what holds on each axis
pub on_axes : (P : Along → Type 0) → P X → P Y → P Z → (i : Along) → P i
on_axes P x y z X = x
on_axes P x y z Y = y
on_axes P x y z Z = z

-- what is left between two ends on each axis is a box, in which the place lies
in_point : (b : ℕ) (y : Along → ℤ) (p q r : Range) → IsIn b (y X) (span p) → IsIn b (y Y) (span q) → IsIn b (y Z) (span r)
    → LiesIn (record { low = point p.low q.low r.low; high = point p.high q.high r.high }) b y
in_point b y p q r on_x on_y on_z = record {
  low = on_axes (λ i. (pos b *ℤ corner_on (point p.low q.low r.low) i) ≤ℤ y i) on_x.low on_y.low on_z.low;
  high = on_axes (λ i. y i ≤ℤ (pos b *ℤ corner_on (point p.high q.high r.high) i)) on_x.high on_y.high on_z.high;
}

-- the box of a slab between whose ends it lies
in_block : (b : ℕ) → 0 < b → (y : Along → ℤ) (main : Along) (c : Slabs) (z : Range) → IsIn b (y main) (span z) → InSides b y main (side_of c)
    → (box : Block3) × (block_along main z c ≡ Some box) × LiesIn box b y
in_block b some y X c z there sides =
    let r = in_reach b some (y Y) (y X) z there c.y sides.0 in
    let q = in_reach b some (y Z) (y X) z there c.z sides.1 in (
      record { low = point z.low r.0.low q.0.low; high = point z.high r.0.high q.0.high },
      rw (r.1, q.1) refl,
      in_point b y z r.0 q.0 there r.2 q.2,
    )
in_block b some y Y c z there sides =
    let r = in_reach b some (y X) (y Y) z there c.x sides.0 in
    let q = in_reach b some (y Z) (y Y) z there c.z sides.1 in (
      record { low = point r.0.low z.low q.0.low; high = point r.0.high z.high q.0.high },
      rw (r.1, q.1) refl,
      in_point b y r.0 z q.0 r.2 there q.2,
    )
in_block b some y Z c z there sides =
    let r = in_reach b some (y X) (y Z) z there c.x sides.0 in
    let q = in_reach b some (y Y) (y Z) z there c.y sides.1 in (
      record { low = point r.0.low q.0.low z.low; high = point r.0.high q.0.high z.high },
      rw (r.1, q.1) refl,
      in_point b y r.0 q.0 z r.2 q.2 there,
    )

-- a number lies between two of the cuts that lead from below it to above it
pub between_cuts : (b : ℕ) (v : ℤ) (cut : ℕ → ℤ) → (pos b *ℤ cut 0) ≤ℤ v → (k : ℕ) → 0 < k → v ≤ℤ (pos b *ℤ cut k)
    → (j : ℕ) × (j < k) × ((pos b *ℤ cut j) ≤ℤ v) × (v ≤ℤ (pos b *ℤ cut (j + 1)))
between_cuts b v cut low zero some high = absurd (omega arith)
between_cuts b v cut low (suc zero) some high = (0, omega arith, low, high)
between_cuts b v cut low (suc (suc k)) some high =
    by_lt_z v (pos b *ℤ cut (suc k)) (λ lt. let r = between_cuts b v cut low (suc k) (omega arith) (weaker v (pos b *ℤ cut (suc k)) lt) in (r.0, omega (arith, r.1), r.2, r.3))
    (λ le. (suc k, omega arith, le, subst (λ (i : ℕ). v ≤ℤ (pos b *ℤ cut i)) (sym (add-one (suc k))) high))
  where
    weaker : (x y : ℤ) → x <ℤ y → x ≤ℤ y
    weaker x y h = omega (arith, ints)

pub no_part : (n : ℕ) (l : ℤ) → int_div_euclid (pos 0 *ℤ l) (pos n) ≡ pos 0
no_part n l = ap (λ z. int_div_euclid z (pos n)) (none l) ∙ ap pos (nothing n)
  where
    none : (l : ℤ) → pos 0 *ℤ l ≡ pos 0
    none l = omega (arith, ints)

    nothing : (n : ℕ) → 0 / n ≡ 0
    nothing n = omega arith

pub all_parts : (n : ℕ) (l : ℤ) → 0 < n → pos 0 ≤ℤ l → int_div_euclid (pos n *ℤ l) (pos n) ≡ l
all_parts n (pos a) some h = ap pos (mul-div_cancel_left a some)
all_parts n (negsuc a) some h = absurd (omega (arith, ints, h))

starts : (r : Range) (n : ℕ) → cut_at r n 0 ≡ r.low
starts r n = ap (λ z. r.low +ℤ z) (no_part n (r.high -ℤ r.low)) ∙ zero_more r.low
  where
    zero_more : (z : ℤ) → z +ℤ pos 0 ≡ z
    zero_more z = omega (arith, ints)

stops : (r : Range) (n : ℕ) → 0 < n → r.low ≤ℤ r.high → cut_at r n n ≡ r.high
stops r n some h = ap (λ z. r.low +ℤ z) (all_parts n (r.high -ℤ r.low) some (over r.low r.high h)) ∙ back r.low r.high
  where
    over : (x y : ℤ) → x ≤ℤ y → pos 0 ≤ℤ (y -ℤ x)
    over x y h = omega (arith, ints)

    back : (x y : ℤ) → x +ℤ (y -ℤ x) ≡ y
    back x y = omega (arith, ints)

-- the box of a slab stands among those of the cylinder
stands_behind : (c : Slabs) (box : Block3) (left i j : ℕ) → j < left → slab_of c (i + j) ≡ Some box → Contains (slabs_behind c i left) box
unfolding slabs_behind
stands_behind c box zero i j h is = absurd (omega (arith, h))
stands_behind c box (suc left) i zero h is =
    let here : slab_of c i ≡ Some box = subst (λ (k : ℕ). slab_of c k ≡ Some box) (nothing_more i) is in
    rw here (Contains-append_left (box ∷ []) (slabs_behind c (i + 1) left) box (0, omega arith, refl))
  where
    nothing_more : (i : ℕ) → i + 0 ≡ i
    nothing_more i = omega arith
stands_behind c box (suc left) i (suc j) h is =
    Contains-append_right (option_to_list (slab_of c i)) (slabs_behind c (i + 1) left) box
    (stands_behind c box left (i + 1) j (omega (arith, h)) (subst (λ (k : ℕ). slab_of c k ≡ Some box) (one_on i j) is))
  where
    one_on : (i j : ℕ) → i + suc j ≡ (i + 1) + j
    one_on i j = omega arith

pub in_slabs : (b : ℕ) → 0 < b → (y : Along → ℤ) (c : Slabs) → 0 < c.count → IsIn b (y c.main) (span c.range) → InSides b y c.main (side_of c)
    → IsCovered (cylinder_boxes c) b y
in_slabs b some y c count there sides =
    let ordered = unscaled_le b c.range.low c.range.high some (trans _ _ _ there.low there.high) in
    let low = subst (λ (z : ℤ). (pos b *ℤ z) ≤ℤ y c.main) (sym (starts c.range c.count)) there.low in
    let high = subst (λ (z : ℤ). y c.main ≤ℤ (pos b *ℤ z)) (sym (stops c.range c.count count ordered)) there.high in
    let at = between_cuts b (y c.main) (cut_at c.range c.count) low c.count count high in
    let z : Range = record { low = cut_at c.range c.count at.0; high = cut_at c.range c.count (at.0 + 1) } in
    let found = in_block b some y c.main c z (record { low = at.2; high = at.3 }) sides in
    record { box = found.0; stands = stands_behind c found.0 c.count 0 at.0 at.1 (subst (λ (k : ℕ). slab_of c k ≡ Some found.0) (sym (from_none at.0)) found.1); inside = found.2 }
  where
    from_none : (j : ℕ) → 0 + j ≡ j
    from_none j = omega arith
