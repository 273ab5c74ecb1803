use Rattle.vcm_dap.proofs.Clearing.{clears}
use Rattle.vcm_dap.proofs.breaking.clear.Goals as goal

pub returns : goal.returns
returns g c = clears c.args.session.now c.command.new.self c.args.number c.command.result c.requires.within c.command.ensures.carried
