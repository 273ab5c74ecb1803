use Rattle.std.proofs.Common.{get_or, pos, rules}
use Rattle.std.proofs.lemmas.Int.{to_z-of_z}
use mir.Syntax.{w32}
use mir.Val.{SFits}
use Rattle.vcm_cover.specs.inner.Regions.{all_after, all_before}
use Rattle.vcm_cover.proofs.region.are_aside_on.Goals as goal

pub returns-then-are_from : goal.returns-then-are_from
returns-then-are_from c = λ _.
    let h : SFits w32 (get_or c.args.region.now.high c.args.axis (pos 0)) = search rules in
    all_after c.args.axis c.requires (simp to_z-of_z at (c.are_from.ensures c.if-are_from.true))

pub returns : goal.returns
returns c = λ e.
    let h : SFits w32 (get_or c.args.region.now.low c.args.axis (pos 0)) = search rules in
    all_before c.args.axis c.requires (simp to_z-of_z at (c.are_up_to.ensures e))
