use Rattle.vcm_debug.specs.Debugging.{now}
use Rattle.vcm_debug.proofs.Exchanges.{refused, refused_fits}
use Rattle.vcm_debug.proofs.serving.answer_to.Goals as goal

pub returns-in-Err-clause-answers : goal.returns-in-Err-clause-answers
returns-in-Err-clause-answers g c = refused c.args.session.now c.args.line.now c.in-Err.reply c.in-Err.ensures.is

pub returns-in-Err-clause-fits : goal.returns-in-Err-clause-fits
returns-in-Err-clause-fits g c =
    refused_fits c.args.session.now.code (now c.args.session.now).world.lines c.args.line.now c.in-Err.reply c.in-Err.ensures.is
