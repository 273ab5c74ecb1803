use Rattle.std.proofs.Common.{◌≡◌, ◌∙◌, ◌+ℤ◌, ◌*ℤ◌, pos, negsuc, rules, arith, w64, FitsSigned, to_z-of_z}
use Rattle.std.proofs.lemmas.Int.{ints}
use Rattle.vcm_picture.specs.Way.{in_view}
use Rattle.vcm_picture.proofs.Clips.{clip_same, clip_ranges, sides}
use Rattle.vcm_picture.proofs.way.in_view.Goals as goal

pub new-requires : goal.new-requires
new-requires c =
    let s = c.args.scope in
    let u = c.get-unit.ensures.range in
    let w = c.get.ensures.range in
    let h = c.get-2.ensures.range in
    let fu : FitsSigned w64 c.get-unit.result = search rules in
    let fw : FitsSigned w64 c.get.result = search rules in
    let fh : FitsSigned w64 c.get-2.result = search rules in
    let fl : FitsSigned w64 c.rect-rect.result.left = search rules in
    let ft : FitsSigned w64 c.rect-rect.result.top = search rules in
    let fr : FitsSigned w64 c.rect-rect.result.right = search rules in
    let fb : FitsSigned w64 c.rect-rect.result.bottom = search rules in
    let ga : FitsSigned w64 c.max.result = search rules in
    let gb : FitsSigned w64 c.max-2.result = search rules in
    let la : FitsSigned w64 c.min.result = search rules in
    let lb : FitsSigned w64 c.min-2.result = search rules in
    let f4 : FitsSigned w64 (pos 4 *ℤ c.get-unit.result) = omega (arith, ints, u.from_below, u.from_above) in
    let fm : FitsSigned w64 (negsuc 3 *ℤ c.get-unit.result) = omega (arith, ints, u.from_below, u.from_above) in
    let fx : FitsSigned w64 (c.get.result +ℤ pos 4 *ℤ c.get-unit.result) = omega (arith, ints, u.from_below, u.from_above, w.from_below, w.from_above) in
    let fy : FitsSigned w64 (c.get-2.result +ℤ pos 4 *ℤ c.get-unit.result) = omega (arith, ints, u.from_below, u.from_above, h.from_below, h.from_above) in
    let unit : c.get-unit.result ≡ s.unit = c.get-unit.ensures.number ∙ c.unit.ensures in
    let wide : c.get.result ≡ s.wide = c.get.ensures.number ∙ c.wide.ensures in
    let high : c.get-2.result ≡ s.high = c.get-2.ensures.number ∙ c.high.ensures in
    let a = simp to_z-of_z at c.max.ensures.value in
    let b = simp to_z-of_z at c.max-2.ensures.value in
    let d = simp to_z-of_z at c.min.ensures.value in
    let e = simp to_z-of_z at c.min-2.ensures.value in
    let seen : sides c.max.result c.max-2.result c.min.result c.min-2.result ≡ in_view s c.args.all =
    clip_same s c.args.all _ _ _ _ (rw (c.rect-rect.ensures.rect, unit) at a) (rw (c.rect-rect.ensures.rect, unit) at b)
    (rw (c.rect-rect.ensures.rect, wide, unit) at d) (rw (c.rect-rect.ensures.rect, high, unit) at e) in
    simp to_z-of_z (rw seen (clip_ranges s c.args.all (rw unit at u) (rw wide at w) (rw high at h) (rw c.rect-rect.ensures.rect at c.rect-rect.ensures.range)))

pub returns : goal.returns
returns c =
    let s = c.args.scope in
    let u = c.get-unit.ensures.range in
    let w = c.get.ensures.range in
    let h = c.get-2.ensures.range in
    let fu : FitsSigned w64 c.get-unit.result = search rules in
    let fw : FitsSigned w64 c.get.result = search rules in
    let fh : FitsSigned w64 c.get-2.result = search rules in
    let fl : FitsSigned w64 c.rect-rect.result.left = search rules in
    let ft : FitsSigned w64 c.rect-rect.result.top = search rules in
    let fr : FitsSigned w64 c.rect-rect.result.right = search rules in
    let fb : FitsSigned w64 c.rect-rect.result.bottom = search rules in
    let ga : FitsSigned w64 c.max.result = search rules in
    let gb : FitsSigned w64 c.max-2.result = search rules in
    let la : FitsSigned w64 c.min.result = search rules in
    let lb : FitsSigned w64 c.min-2.result = search rules in
    let f4 : FitsSigned w64 (pos 4 *ℤ c.get-unit.result) = omega (arith, ints, u.from_below, u.from_above) in
    let fm : FitsSigned w64 (negsuc 3 *ℤ c.get-unit.result) = omega (arith, ints, u.from_below, u.from_above) in
    let fx : FitsSigned w64 (c.get.result +ℤ pos 4 *ℤ c.get-unit.result) = omega (arith, ints, u.from_below, u.from_above, w.from_below, w.from_above) in
    let fy : FitsSigned w64 (c.get-2.result +ℤ pos 4 *ℤ c.get-unit.result) = omega (arith, ints, u.from_below, u.from_above, h.from_below, h.from_above) in
    let unit : c.get-unit.result ≡ s.unit = c.get-unit.ensures.number ∙ c.unit.ensures in
    let wide : c.get.result ≡ s.wide = c.get.ensures.number ∙ c.wide.ensures in
    let high : c.get-2.result ≡ s.high = c.get-2.ensures.number ∙ c.high.ensures in
    let a = simp to_z-of_z at c.max.ensures.value in
    let b = simp to_z-of_z at c.max-2.ensures.value in
    let d = simp to_z-of_z at c.min.ensures.value in
    let e = simp to_z-of_z at c.min-2.ensures.value in
    let seen : sides c.max.result c.max-2.result c.min.result c.min-2.result ≡ in_view s c.args.all =
    clip_same s c.args.all _ _ _ _ (rw (c.rect-rect.ensures.rect, unit) at a) (rw (c.rect-rect.ensures.rect, unit) at b)
    (rw (c.rect-rect.ensures.rect, wide, unit) at d) (rw (c.rect-rect.ensures.rect, high, unit) at e) in
    let made = simp to_z-of_z at c.new.ensures in
    made ∙ seen
