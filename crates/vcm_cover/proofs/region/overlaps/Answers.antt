use Rattle.std.proofs.Common.{ℕ, get_or, pos, rules}
use Rattle.std.proofs.lemmas.Int.{to_z-of_z}
use mir.Syntax.{w32}
use mir.Val.{SFits}
use Rattle.vcm_boxing.specs.Ranges.{numbers}
use Rattle.vcm_cover.specs.inner.Regions.{IsSharedOn}
use Rattle.vcm_boxing.proofs.Inside.{each_axis}
use Rattle.vcm_cover.proofs.region.overlaps.Goals as goal

pub returns : goal.returns
returns c = λ e.
    let g = c.args.one.now in
    let h = c.args.other.now in
    let a0 : SFits w32 (get_or g.low 0 (pos 0)) = search rules in
    let a1 : SFits w32 (get_or g.low 1 (pos 0)) = search rules in
    let a2 : SFits w32 (get_or g.low 2 (pos 0)) = search rules in
    let b0 : SFits w32 (get_or g.high 0 (pos 0)) = search rules in
    let b1 : SFits w32 (get_or g.high 1 (pos 0)) = search rules in
    let b2 : SFits w32 (get_or g.high 2 (pos 0)) = search rules in
    let d0 : SFits w32 (get_or h.low 0 (pos 0)) = search rules in
    let d1 : SFits w32 (get_or h.low 1 (pos 0)) = search rules in
    let d2 : SFits w32 (get_or h.low 2 (pos 0)) = search rules in
    let e0 : SFits w32 (get_or h.high 0 (pos 0)) = search rules in
    let e1 : SFits w32 (get_or h.high 1 (pos 0)) = search rules in
    let e2 : SFits w32 (get_or h.high 2 (pos 0)) = search rules in
    record {
      on_axis =
          each_axis (λ (k : ℕ). IsSharedOn (numbers g.low k) (numbers g.high k) (numbers h.low k) (numbers h.high k))
          (simp to_z-of_z at (c.is_shared.ensures c.if-not-is_shared.false))
          (simp to_z-of_z at (c.is_shared-2.ensures c.if-not-is_shared-2.false))
          (simp to_z-of_z at (c.is_shared-3.ensures e));
    }
