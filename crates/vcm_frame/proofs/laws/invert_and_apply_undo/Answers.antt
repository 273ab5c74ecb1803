use Rattle.vcm_frame.proofs.RoundTrip.{undone, done_again}
use Rattle.vcm_frame.proofs.laws.invert_and_apply_undo.Goals as goal

pub returns-clause-there_and_back : goal.returns-clause-there_and_back
returns-clause-there_and_back c = undone

pub returns-clause-back_and_there : goal.returns-clause-back_and_there
returns-clause-back_and_there c = done_again
