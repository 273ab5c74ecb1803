use Rattle.vcm_machine.specs.Running.{started}
use Rattle.vcm_debug.proofs.checkpoints.machine_at_last.Goals as goal

pub returns-in-Err-2-clause-kept : goal.returns-in-Err-2-clause-kept
returns-in-Err-2-clause-kept g c = c.clear.ensures (started (g.P.Part.part c.args.part.now) c.args.loaded.now)
