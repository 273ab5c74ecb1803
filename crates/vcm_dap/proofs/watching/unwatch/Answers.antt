use Rattle.vcm_dap.proofs.Watches.{let_go}
use Rattle.vcm_dap.proofs.watching.unwatch.Goals as goal

pub returns : goal.returns
returns g c = let_go c.args.session.now c.command.new.self c.args.variable c.command.result c.command.ensures.carried
