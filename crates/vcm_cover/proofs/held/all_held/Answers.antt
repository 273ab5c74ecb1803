use Rattle.std.proofs.Common.{subst}
use Rattle.std.specs.List.{All}
use Rattle.std.proofs.lemmas.List.{take_all}
use Rattle.std.proofs.lemmas.List.Elements.{All-more}
use Rattle.vcm_cover.specs.inner.Held.{IsHeldWhole}
use Rattle.vcm_cover.proofs.Wholes.{covers}
use Rattle.vcm_cover.proofs.held.all_held.Goals as goal

pub loop-triangle-preserved : goal.loop-triangle-preserved
loop-triangle-preserved c =
    let held = c.is_whole.ensures c.if-not-is_whole.false in
    All-more (IsHeldWhole c.args.blocks.now) c.args.triangles.now c.loop-triangle.triangle-index _ c.loop-triangle-test.true c.loop-triangle.invariant held

pub returns : goal.returns
returns c = λ _. covers c.args.blocks.now c.args.triangles.now
    (subst (All (IsHeldWhole c.args.blocks.now)) (take_all c.loop-triangle.triangle-index c.args.triangles.now c.loop-triangle-test.false) c.loop-triangle.invariant)
