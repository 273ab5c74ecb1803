use Rattle.std.proofs.Common.{arith}
use Rattle.vcm_dap.proofs.Settling.{nearest_more, nearest_all}
use Rattle.vcm_dap.proofs.breaking.settled.Goals as goal

pub loop-n-preserved : goal.loop-n-preserved
loop-n-preserved c =
    rw c.nearer-next.ensures
    (nearest_more c.args.line c.loop-n.least c.args.loaded.now.statements c.loop-n.n c.line-at.ensures.0 c.line-at.result c.line-at.ensures.1
    c.line-at.ensures.2 c.loop-n.invariant)

pub returns : goal.returns
returns c =
    nearest_all c.args.line c.loop-n.least c.args.loaded.now.statements c.loop-n.n
    (omega (arith, c.loop-n-test.false, c.statement_count-count.ensures.count)) c.loop-n.invariant
