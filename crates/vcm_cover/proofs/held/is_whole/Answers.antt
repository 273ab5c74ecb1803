use Rattle.vcm_cover.proofs.Wholes.{whole}
use Rattle.vcm_cover.proofs.held.is_whole.Goals as goal

pub returns-in-Some : goal.returns-in-Some
returns-in-Some c = λ e.
    whole c.in-Some.facet c.args.triangle.now c.args.blocks.now c.facet_range.result c.in-Some.ensures c.facet_range.ensures (c.is_held.ensures e)
