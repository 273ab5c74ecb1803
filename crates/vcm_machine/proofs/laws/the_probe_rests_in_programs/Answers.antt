use Rattle.vcm_machine.proofs.ProgramRests.{programs_rest}
use Rattle.vcm_machine.proofs.laws.the_probe_rests_in_programs.Goals as goal

pub returns : goal.returns
returns c = programs_rest
