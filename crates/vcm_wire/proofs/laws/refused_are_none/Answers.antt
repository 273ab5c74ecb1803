use Rattle.vcm_wire.proofs.FrameLemmas.{refused}
use Rattle.vcm_wire.proofs.laws.refused_are_none.Goals as goal

pub returns : goal.returns
returns c = refused
