use Rattle.std.proofs.Common.{rules}
use Rattle.vcm_margin.proofs.Bisected.{begins_at}
use Rattle.vcm_margin.proofs.widening.margin_with.Goals as goal

pub loop-beyond-init : goal.loop-beyond-init
loop-beyond-init g c =
    rw c.bounds-tip.ensures.bounds (begins_at c.args.part.now c.args.loaded.now c.args.steps c.bounds-tip.ensures.valid)

pub loop-beyond-preserved : goal.loop-beyond-preserved
loop-beyond-preserved g c = search rules
