use Rattle.vcm_loader.proofs.Lines.{kinds_more}
use Rattle.vcm_loader.proofs.loading.variable_kinds.Goals as goal

pub loop-n-preserved : goal.loop-n-preserved
loop-n-preserved c =
    kinds_more c.args.image.now.code.tables.variables c.loop-n.n c.loop-n.kinds.items c.push.new.self.items c.variable.result c.kind.result c.loop-n.invariant
    c.variable.ensures c.kind.ensures c.in_ok-push.ensures.items
