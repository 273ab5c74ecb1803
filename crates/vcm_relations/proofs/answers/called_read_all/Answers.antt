use Rattle.vcm_relations.proofs.Tied.{read_all_answer}
use Rattle.vcm_relations.proofs.answers.called_read_all.Goals as goal

pub returns : goal.returns
returns g c = read_all_answer _ _ _ c.read_all.ensures.all c.read_all.ensures.short c.read_all.ensures.fault
