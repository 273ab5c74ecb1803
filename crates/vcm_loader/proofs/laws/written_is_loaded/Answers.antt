use Rattle.vcm_loader.proofs.Refusals.{written_loaded}
use Rattle.vcm_loader.proofs.laws.written_is_loaded.Goals as goal

pub returns : goal.returns
returns c = written_loaded
