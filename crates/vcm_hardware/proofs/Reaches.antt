-- How far parts reach, as the code works it out.
use Rattle.std.proofs.Common.{◌≡◌, ℕ, ℤ, pos, ◌+◌, ◌+ℤ◌, ◌-ℤ◌, ◌*ℤ◌, ◌<ℤ◌, neg_ℤ, Bool, true, arith, ap, refl, ◌∙◌}
use Rattle.std.specs.Prelude.{int_lt, if◌then◌else◌}
use Rattle.std.specs.Int.{int_min, int_max, int_div_euclid}
use Rattle.std.proofs.lemmas.Int.{ints}
use Rattle.vcm_num.specs.Point.{point}
use Rattle.vcm_spec.specs.declared.workpiece.Block3.{Block3}
use Rattle.vcm_hardware.specs.declared.interval.Ratio.{Ratio}
use Rattle.vcm_hardware.specs.declared.angle.Along.{Along}
use Rattle.vcm_hardware.specs.declared.angle.Along.TheVariants.{X, Z}
use Rattle.vcm_hardware.specs.declared.description.Cylinder.{Cylinder}
use Rattle.vcm_hardware.specs.declared.description.Ball.{Ball}
use Rattle.vcm_hardware.specs.declared.swing.Reach.{Reach}
use Rattle.vcm_hardware.specs.declared.swing.Swing.{Swing}
use Rattle.vcm_hardware.specs.Intervals.{ceil_one, half_up, root_up}
use Rattle.vcm_hardware.specs.Turned.{cosine}
use Rattle.vcm_hardware.specs.Slabs.{axis_between}
use Rattle.vcm_hardware.proofs.Signs.{negative_is}
use Rattle.vcm_hardware.specs.Swings.{diagonal, farther, reach_along, cylinder_reach, ball_reach, raised, swing_by, swing_cut, swing_half, swing_between, swing_slab}

pub across_is : (r x y z t b d e w : ℤ) → d ≡ diagonal y z → e ≡ diagonal x (d +ℤ r) → w ≡ diagonal x (y +ℤ r)
    → record { far = e; wide = w; high = t +ℤ r; low = b -ℤ r } ≡ reach_along X r x y z t b
across_is r x y z t b d e w ed ee ew = rw (ee, ew, ed) refl

pub up_is : (r x y z t b d e : ℤ) → d ≡ diagonal x y → e ≡ diagonal z (d +ℤ r) → record { far = e; wide = d +ℤ r; high = t; low = b } ≡ reach_along Z r x y z t b
up_is r x y z t b d e ed ee = rw (ee, ed) refl

pub cylinder_is : (c : Cylinder) (a : Along) (r x y z t b : ℤ) (all : Reach) → a ≡ axis_between c.from c.to → r ≡ half_up c.diameter → x ≡ farther c.from.x c.to.x
    → y ≡ farther c.from.y c.to.y → z ≡ farther c.from.z c.to.z → t ≡ int_max c.from.z c.to.z → b ≡ int_min c.from.z c.to.z → all ≡ reach_along a r x y z t b
    → all ≡ cylinder_reach c
cylinder_is c a r x y z t b all ea er ex ey ez et eb e = rw (e, er, ex, ey, ez, et, eb, ea) refl

pub ball_is : (b : Ball) (r x y z d w : ℤ) → x ≡ b.at.x → y ≡ b.at.y → z ≡ b.at.z → r ≡ half_up b.diameter → d ≡ root_up (x *ℤ x +ℤ y *ℤ y +ℤ z *ℤ z) → w ≡ diagonal x y
    → record { far = d +ℤ r; wide = w +ℤ r; high = z +ℤ r; low = z -ℤ r } ≡ ball_reach b
ball_is b r x y z d w ex ey ez er ed ew = rw (ed, ew, er, ex, ey, ez) refl

-- ---- a swing

pub raised_is : (steps low : ℤ) (c : Ratio) (p q : ℤ) → pos 12 <ℤ steps → c ≡ cosine steps → p ≡ c.low *ℤ low → q ≡ ceil_one p → q ≡ raised steps low
raised_is steps low c p q h ec ep eq = eq ∙ ap ceil_one ep ∙ ap (λ (x : Ratio). ceil_one (x.low *ℤ low)) ec ∙ over (int_lt (pos 12) steps) (grind (arith, ints))
  where
    over : (t : Bool) → t ≡ true → ceil_one ((cosine steps).low *ℤ low) ≡ (if t then ceil_one ((cosine steps).low *ℤ low) else pos 0)
    over t e = rw e refl

pub swing_is : (all : Reach) (steps r m : ℤ) → r ≡ raised steps all.low → m ≡ int_min all.far (all.wide +ℤ all.high +ℤ r)
    → record { radius = all.far; top = m } ≡ swing_by all steps
swing_is all steps r m er em =
    ap (λ (z : ℤ). record { radius = all.far; top = z }) em
    ∙ ap (λ (z : ℤ). record { radius = all.far; top = int_min all.far (all.wide +ℤ all.high +ℤ z) }) er

pub swing_cut_is : (w : Swing) (i j : ℕ) (s : ℤ) → s ≡ int_div_euclid (pos j *ℤ (w.top +ℤ w.radius)) (pos 16) → j ≡ i → (s -ℤ w.radius) ≡ swing_cut w (pos i)
swing_cut_is w i j s es ej = rw (es, ej) refl

pub half_is : (radius z y m l r : ℤ) → m ≡ int_max z (pos 0 -ℤ y) → l ≡ int_max m (pos 0) → r ≡ root_up (radius *ℤ radius -ℤ l *ℤ l) → r ≡ swing_half radius z y
half_is radius z y m l r em el er = rw (er, el, em, negative_is y) refl

pub between_is : (radius z y h : ℤ) → h ≡ swing_half radius z y → record { low = point (pos 0 -ℤ h) (pos 0 -ℤ h) z; high = point h h y } ≡ swing_between radius z y
between_is radius z y h eh =
    ap (λ (x : ℤ). record { low = point x x z; high = point h h y }) (negative_is h)
    ∙ ap (λ (x : ℤ). record { low = point (neg_ℤ x) (neg_ℤ x) z; high = point x x y }) eh

pub slab_is : (w : Swing) (i : ℕ) (a b : ℤ) (r : Block3) → a ≡ swing_cut w (pos i) → b ≡ swing_cut w (pos (i + 1)) → r ≡ swing_between w.radius a b → r ≡ swing_slab w (pos i)
slab_is w i a b r ea eb er =
    er ∙ ap (λ (z : ℤ). swing_between w.radius z b) ea ∙ ap (λ (z : ℤ). swing_between w.radius (swing_cut w (pos i)) z) eb
