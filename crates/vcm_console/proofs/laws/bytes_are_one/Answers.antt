use Rattle.vcm_console.proofs.OneLine.{one_byte}
use Rattle.vcm_console.proofs.laws.bytes_are_one.Goals as goal

pub returns : goal.returns
returns c = one_byte
