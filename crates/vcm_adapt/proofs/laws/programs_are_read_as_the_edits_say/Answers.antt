use Rattle.vcm_adapt.proofs.Seen.{seen_alike}
use Rattle.vcm_adapt.proofs.laws.programs_are_read_as_the_edits_say.Goals as goal

pub returns : goal.returns
returns c = seen_alike
