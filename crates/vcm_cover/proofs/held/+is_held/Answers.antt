use Rattle.vcm_boxing.specs.Ranges.{facet_corners}
use Rattle.vcm_cover.proofs.Settled.{joined, nowhere_held}
use Rattle.vcm_cover.proofs.held.+is_held.Goals as goal

pub returns-else-not-is_held-2 : goal.returns-else-not-is_held-2
returns-else-not-is_held-2 t c = λ e.
    joined (facet_corners c.args.facet.now) c.args.blocks.now c.args.range.now c.below.result c.level.result c.above.result _ _
    c.below.ensures c.level.ensures c.above.ensures
    (c.is_held.ensures c.if-not-is_held.false) (c.is_held-in-Some.ensures c.if-not-is_held-2.false) (c.is_held-in-Some-2.ensures e)

pub returns-then-is_nowhere : goal.returns-then-is_nowhere
returns-then-is_nowhere t c = λ _. nowhere_held (facet_corners c.args.facet.now) c.args.blocks.now c.args.range.now (c.is_nowhere.ensures c.if-is_nowhere.true)
