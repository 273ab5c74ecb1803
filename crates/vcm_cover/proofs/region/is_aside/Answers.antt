use Rattle.std.proofs.Common.{arith, get_or, pos, rules}
use Rattle.std.proofs.lemmas.Int.{to_z-of_z}
use mir.Syntax.{w32, w64}
use mir.Val.{SFits}
use Rattle.vcm_cover.proofs.Ways.{aside}
use Rattle.vcm_cover.proofs.region.is_aside.Goals as goal

pub returns-then-is_off : goal.returns-then-is_off
returns-then-is_off c = λ _.
    let b = c.args.block.now in
    let g = c.args.region.now in
    let l : SFits w32 (get_or g.low 0 (pos 0)) = search rules in
    let h : SFits w32 (get_or g.high 0 (pos 0)) = search rules in
    let bl : SFits w64 (get_or b.low.0 0 (pos 0)) = search rules in
    let bh : SFits w64 (get_or b.high.0 0 (pos 0)) = search rules in
    aside g b 0 (omega arith) (simp to_z-of_z at (c.is_off.ensures c.if-is_off.true))

pub returns-then-is_off-2 : goal.returns-then-is_off-2
returns-then-is_off-2 c = λ _.
    let b = c.args.block.now in
    let g = c.args.region.now in
    let l : SFits w32 (get_or g.low 1 (pos 0)) = search rules in
    let h : SFits w32 (get_or g.high 1 (pos 0)) = search rules in
    let bl : SFits w64 (get_or b.low.0 1 (pos 0)) = search rules in
    let bh : SFits w64 (get_or b.high.0 1 (pos 0)) = search rules in
    aside g b 1 (omega arith) (simp to_z-of_z at (c.is_off-2.ensures c.if-is_off-2.true))

pub returns : goal.returns
returns c = λ e.
    let b = c.args.block.now in
    let g = c.args.region.now in
    let l : SFits w32 (get_or g.low 2 (pos 0)) = search rules in
    let h : SFits w32 (get_or g.high 2 (pos 0)) = search rules in
    let bl : SFits w64 (get_or b.low.0 2 (pos 0)) = search rules in
    let bh : SFits w64 (get_or b.high.0 2 (pos 0)) = search rules in
    aside g b 2 (omega arith) (simp to_z-of_z at (c.is_off-3.ensures e))
