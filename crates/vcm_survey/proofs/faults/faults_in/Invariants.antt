use Rattle.vcm_survey.proofs.Turns.{AreFaults}
use Rattle.vcm_survey.proofs.faults.faults_in.Given as goal

abbrev pub invariant-sentences : goal.invariant-sentences
invariant-sentences l = AreFaults l.sentences l.sentence-index l.faults.items
