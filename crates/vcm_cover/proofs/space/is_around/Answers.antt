use Rattle.std.proofs.Common.{ℕ, pos, ◌*ℤ◌, arith, get_or, rules}
use Rattle.std.proofs.lemmas.Int.{to_z-of_z}
use mir.Syntax.{w32}
use mir.Val.{SFits}
use lib.Signed.{◌<ℤ◌}
use Rattle.vcm_boxing.specs.Ranges.{numbers}
use Rattle.vcm_boxing.proofs.Inside.{each_axis}
use Rattle.vcm_cover.proofs.space.is_around.Goals as goal

pub returns : goal.returns
returns c = λ e s x some i.
    let g = c.args.region.now in
    let l0 : SFits w32 (get_or g.low 0 (pos 0)) = search rules in
    let l1 : SFits w32 (get_or g.low 1 (pos 0)) = search rules in
    let l2 : SFits w32 (get_or g.low 2 (pos 0)) = search rules in
    let h0 : SFits w32 (get_or g.high 0 (pos 0)) = search rules in
    let h1 : SFits w32 (get_or g.high 1 (pos 0)) = search rules in
    let h2 : SFits w32 (get_or g.high 2 (pos 0)) = search rules in
    let on0 = i.on_axis 0 (omega arith) in
    let on1 = i.on_axis 1 (omega arith) in
    let on2 = i.on_axis 2 (omega arith) in
    record {
      above_low = each_axis (λ (k : ℕ). (pos s *ℤ numbers g.low k) <ℤ x k)
          (simp to_z-of_z at (c.lies_above.ensures c.if-not-lies_above.false s (x 0) some on0))
          (simp to_z-of_z at (c.lies_above-2.ensures c.if-not-lies_above-2.false s (x 1) some on1))
          (simp to_z-of_z at (c.lies_above-3.ensures c.if-not-lies_above-3.false s (x 2) some on2));
      below_high = each_axis (λ (k : ℕ). x k <ℤ (pos s *ℤ numbers g.high k))
          (simp to_z-of_z at (c.lies_below.ensures c.if-not-lies_below.false s (x 0) some on0))
          (simp to_z-of_z at (c.lies_below-else-not-lies_above-2.ensures c.if-not-lies_below-2.false s (x 1) some on1))
          (simp to_z-of_z at (c.lies_below-2.ensures e s (x 2) some on2));
    }
