use Rattle.std.proofs.Common.{ap, ◌∙◌}
use Rattle.vcm_machine.specs.Running.{started}
use Rattle.vcm_first_contact.proofs.Found.{stopped}
use Rattle.vcm_first_contact.proofs.finding.find_first.Goals as goal

pub returns-in-Ok-follow_run-clause-first : goal.returns-in-Ok-follow_run-clause-first
returns-in-Ok-follow_run-clause-first g c =
    let code = c.args.loaded.now in
    stopped c.args.blocks.now c.args.boxes.now code c.args.steps c.in-Ok.machine c.follow_run.new.machine c.in-Ok-follow_run.ran (c.in-Ok.ensures ∙ ap (λ p. started p code) c.requires)
    c.in-Ok-follow_run.ensures.run c.follow_run.new.to c.in-Ok-follow_run.ensures.has c.in-Stopped.is
