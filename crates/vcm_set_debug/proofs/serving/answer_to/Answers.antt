use Rattle.vcm_set_debug.specs.Session.{world}
use Rattle.vcm_debug.proofs.Exchanges.{refused_fits}
use Rattle.vcm_set_debug.proofs.Exchanges.{refused}
use Rattle.vcm_set_debug.proofs.serving.answer_to.Goals as goal

pub returns-in-Err-clause-answers : goal.returns-in-Err-clause-answers
returns-in-Err-clause-answers g c = refused c.args.session.now c.args.line.now c.in-Err.reply c.in-Err.ensures.is

pub returns-in-Err-clause-fits : goal.returns-in-Err-clause-fits
returns-in-Err-clause-fits g c =
    refused_fits c.args.session.now.run.code (world c.args.session.now).lines c.args.line.now c.in-Err.reply c.in-Err.ensures.is
