use Rattle.vcm_run.proofs.Refusals.{refused_for}
use Rattle.vcm_run.proofs.program.build_placed.Goals as goal

pub returns-in-Err-clause-refused : goal.returns-in-Err-clause-refused
returns-in-Err-clause-refused c = refused_for c.args.notices.items c.args.all.items _ c.in-Err.ensures.refused
