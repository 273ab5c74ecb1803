use Rattle.vcm_job.proofs.DebugLemmas.{session_of}
use Rattle.vcm_job.proofs.debugging.serve_loaded.Goals as goal

pub returns-in-Ok-served-clause-done : goal.returns-in-Ok-served-clause-done
returns-in-Ok-served-clause-done g c = session_of _ _ _ _ _ _ _ _ _ _ c.in-Ok.ensures c.in-Ok-served.is c.serve-served.ensures
