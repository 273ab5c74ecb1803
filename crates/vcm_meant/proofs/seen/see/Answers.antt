use Rattle.std.proofs.Common.{sym, arith, ap, ◌∙◌}
use Rattle.vcm_meant.specs.Seen.{seen_with}
use Rattle.vcm_meant.proofs.Seeing.{seen_here}
use Rattle.vcm_meant.proofs.seen.see.Goals as goal

pub returns-then-is_seen : goal.returns-then-is_seen
returns-then-is_seen c =
    let l = c.loop-at-test.true in
    let e = c.len.ensures in
    seen_here c.args.line c.args.feature c.args.is_met c.loop-at.all.items c.loop-at.at c.loop-at.invariant.cut (omega (arith, l, e)) c.index-seen.result.now c.index-seen.ensures
    (sym c.is_seen.ensures ∙ c.if-is_seen.true) c.known_more.result c.known_more.ensures
    ∙ ap (λ x. seen_with c.args.line c.args.feature c.args.is_met x.items) c.loop-at.invariant.same
