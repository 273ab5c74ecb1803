use Rattle.std.proofs.Common.{pos, get_or, rules}
use Rattle.std.proofs.lemmas.Int.{to_z-of_z}
use mir.Syntax.{w32}
use mir.Val.{SFits}
use Rattle.vcm_cover.proofs.Settled.{in_closed}
use Rattle.vcm_cover.proofs.space.closed.Goals as goal

pub returns : goal.returns
returns c =
    let a = c.args.low.now in
    let b = c.args.high.now in
    let l0 : SFits w32 (get_or a 0 (pos 0)) = search rules in
    let l1 : SFits w32 (get_or a 1 (pos 0)) = search rules in
    let l2 : SFits w32 (get_or a 2 (pos 0)) = search rules in
    let h0 : SFits w32 (get_or b 0 (pos 0)) = search rules in
    let h1 : SFits w32 (get_or b 1 (pos 0)) = search rules in
    let h2 : SFits w32 (get_or b 2 (pos 0)) = search rules in
    simp to_z-of_z (λ s x l h. in_closed a b s x l h)
