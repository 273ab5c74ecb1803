use Rattle.std.proofs.Common.{length}
use Rattle.vcm_job.proofs.CutJobs.{IsLeft}
use Rattle.vcm_job.proofs.cutting.texts_of.Given as goal

abbrev pub invariant-loop-rest : goal.invariant-loop-rest
invariant-loop-rest l = IsLeft l.input l.rest

abbrev pub decreases-loop-rest : goal.decreases-loop-rest
decreases-loop-rest l = length l.rest
