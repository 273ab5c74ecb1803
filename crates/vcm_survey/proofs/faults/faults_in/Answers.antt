use Rattle.std.proofs.Common.{◌≡◌, ◌∷◌, refl}
use Rattle.vcm_survey.proofs.Turns.{next_sentence, more_faults, all_faults}
use Rattle.vcm_survey.proofs.faults.faults_in.Goals as goal

pub sentences-preserved : goal.sentences-preserved
sentences-preserved c =
    let next = next_sentence c.args.sentences.now c.sentences.sentence-index c.sentence-item.result c.sentences-test.true c.sentence-item.is in
    more_faults c.args.sentences.now c.sentences.sentence-index c.sentence-item.result c.sentences.faults.items c.push_fault.new.out.items next c.in_ok-push_fault.ensures c.sentences.invariant

pub returns : goal.returns
returns c = all_faults c.args.sentences.now c.sentences.sentence-index c.sentences.faults.items c.sentences-test.false c.sentences.invariant
