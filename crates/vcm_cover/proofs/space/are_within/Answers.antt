use Rattle.std.proofs.Common.{ℕ, pos, get_or, rules}
use Rattle.std.proofs.lemmas.Int.{to_z-of_z}
use mir.Syntax.{w32}
use mir.Val.{SFits}
use Rattle.vcm_boxing.specs.Ranges.{numbers}
use Rattle.vcm_cover.specs.inner.Regions.{AreFrom, AreUpTo}
use Rattle.vcm_boxing.proofs.Inside.{each_axis}
use Rattle.vcm_cover.proofs.space.are_within.Goals as goal

pub returns : goal.returns
returns c = λ e.
    let a = c.args.low.now in
    let b = c.args.high.now in
    let l0 : SFits w32 (get_or a 0 (pos 0)) = search rules in
    let l1 : SFits w32 (get_or a 1 (pos 0)) = search rules in
    let l2 : SFits w32 (get_or a 2 (pos 0)) = search rules in
    let h0 : SFits w32 (get_or b 0 (pos 0)) = search rules in
    let h1 : SFits w32 (get_or b 1 (pos 0)) = search rules in
    let h2 : SFits w32 (get_or b 2 (pos 0)) = search rules in
    record {
      from_low = each_axis (λ (k : ℕ). AreFrom k (numbers a k) c.args.blocks.now)
          (simp to_z-of_z at (c.are_from.ensures c.if-not-are_from.false))
          (simp to_z-of_z at (c.are_from-2.ensures c.if-not-are_from-2.false))
          (simp to_z-of_z at (c.are_from-3.ensures c.if-not-are_from-3.false));
      to_high = each_axis (λ (k : ℕ). AreUpTo k (numbers b k) c.args.blocks.now)
          (simp to_z-of_z at (c.are_up_to.ensures c.if-not-are_up_to.false))
          (simp to_z-of_z at (c.are_up_to-else-not-are_from-2.ensures c.if-not-are_up_to-2.false))
          (simp to_z-of_z at (c.are_up_to-2.ensures e));
    }
