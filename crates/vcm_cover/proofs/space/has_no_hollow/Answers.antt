use Rattle.vcm_cover.proofs.Settled.{no_hollow}
use Rattle.vcm_cover.proofs.space.has_no_hollow.Goals as goal

pub returns : goal.returns
returns c = λ e.
    no_hollow c.args.blocks.now c.args.regions.now c.args.low.now c.args.high.now c.closed.result (c.are_within.ensures c.if-not-are_within.false)
    (c.all_lead_out.ensures c.if-not-all_lead_out.false) c.closed.ensures (c.is_settled.ensures e)
