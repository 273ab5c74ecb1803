use Rattle.std.proofs.Common.{◌∙◌}
use Rattle.vcm_asm.proofs.Targeted.{retargeted}
use Rattle.vcm_asm.proofs.emitted.Emitted.set_target.Goals as goal

pub returns-clause-writes : goal.returns-clause-writes
returns-clause-writes c before after s e l =
    retargeted c.self.inside.statements.items c.args.number c.args.target c.index_mut.result.now _ before after s (c.self.view_is ∙ e) l c.index_mut.ensures.value c.retarget.ensures
