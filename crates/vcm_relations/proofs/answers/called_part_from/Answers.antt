use Rattle.vcm_job.specs.Files.{IsPartIn, IsNoPart}
use Rattle.vcm_relations.proofs.Tied.{given}
use Rattle.vcm_relations.proofs.answers.called_part_from.Goals as goal

pub returns : goal.returns
returns g c = given IsPartIn IsNoPart _ _ _ c.part_from.ensures.part c.part_from.ensures.fault c.part_from.ensures.long
