use Rattle.vcm_tree.proofs.Accepting.{accepted_whole}
use Rattle.vcm_program.proofs.Reaching.{whole_steps}
use Rattle.vcm_tree.proofs.laws.accepted_programs_always_step.Goals as goal

pub returns : goal.returns
returns c text p a = whole_steps p.program p.tables (accepted_whole text p a)
