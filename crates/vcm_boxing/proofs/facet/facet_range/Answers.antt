use Rattle.std.proofs.Common.{pos, get_or, rules}
use Rattle.std.proofs.lemmas.Int.{to_z-of_z}
use mir.Syntax.{w32}
use mir.Val.{SFits}
use Rattle.vcm_boxing.proofs.Spans.{in_span}
use Rattle.vcm_boxing.specs.Ranges.{facet_corners}
use Rattle.vcm_boxing.proofs.facet.facet_range.Goals as goal

pub returns : goal.returns
returns c =
    let f = c.args.facet.now in
    let a0 : SFits w32 (get_or f.a 0 (pos 0)) = search rules in
    let a1 : SFits w32 (get_or f.a 1 (pos 0)) = search rules in
    let a2 : SFits w32 (get_or f.a 2 (pos 0)) = search rules in
    let b0 : SFits w32 (get_or f.b 0 (pos 0)) = search rules in
    let b1 : SFits w32 (get_or f.b 1 (pos 0)) = search rules in
    let b2 : SFits w32 (get_or f.b 2 (pos 0)) = search rules in
    let d0 : SFits w32 (get_or f.c 0 (pos 0)) = search rules in
    let d1 : SFits w32 (get_or f.c 1 (pos 0)) = search rules in
    let d2 : SFits w32 (get_or f.c 2 (pos 0)) = search rules in
    in_span (facet_corners f) _ (simp to_z-of_z at c.span.ensures) (simp to_z-of_z at c.span-2.ensures) (simp to_z-of_z at c.span-3.ensures)
