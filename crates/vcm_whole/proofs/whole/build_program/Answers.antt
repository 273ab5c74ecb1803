use Rattle.vcm_whole.proofs.Refusing.{carried_refusals}
use Rattle.vcm_whole.proofs.whole.build_program.Goals as goal

pub returns-in-Ok-None-clause-refused : goal.returns-in-Ok-None-clause-refused
returns-in-Ok-None-clause-refused c = carried_refusals _ c.args.choices.now c.args.text.now c.args.expanded.items c.deref.result.now c.args.notices.items c.build_put.result
    c.deref.ensures.value (rw c.in-Ok-None.field-0-is at c.in-Ok-None.ensures) c.build_put.ensures.refused
