use Rattle.vcm_debug.specs.Debugging.{now}
use Rattle.vcm_debug.proofs.Exchanges.{refused_fits}
use Rattle.vcm_prompt.proofs.answering.told_of.Goals as goal

pub returns-in-Err : goal.returns-in-Err
returns-in-Err g c = refused_fits c.args.session.now.code (now c.args.session.now).world.lines c.args.line.now c.in-Err.reply c.in-Err.ensures.is
