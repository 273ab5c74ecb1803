use Rattle.vcm_dap.proofs.Watches.{watched}
use Rattle.vcm_dap.proofs.watching.watch_one.Goals as goal

pub returns : goal.returns
returns g c = watched c.args.session.now c.command.new.self c.args.variable c.command.result c.command.ensures.carried
