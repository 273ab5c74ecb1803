use Rattle.vcm_cover.proofs.Settled.{nowhere_settled, joined_space}
use Rattle.vcm_cover.proofs.space.+is_settled.Goals as goal

pub returns-else-not-is_settled-2 : goal.returns-else-not-is_settled-2
returns-else-not-is_settled-2 t c = λ e.
    joined_space c.args.blocks.now c.args.regions.now c.args.range.now c.below-part.result c.level-part.result c.above-part.result _ _
    c.below-part.ensures c.level-part.ensures c.above-part.ensures
    (c.is_settled.ensures c.if-not-is_settled.false) (c.is_settled-in-Some.ensures c.if-not-is_settled-2.false) (c.is_settled-in-Some-2.ensures e)

pub returns-then-is_nowhere : goal.returns-then-is_nowhere
returns-then-is_nowhere t c = λ _. nowhere_settled c.args.blocks.now c.args.regions.now c.args.range.now (c.is_nowhere.ensures c.if-is_nowhere.true)
