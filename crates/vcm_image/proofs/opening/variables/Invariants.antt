use Rattle.vcm_fields.specs.Readers.{entry_at}
use Rattle.vcm_image.proofs.Tables.{Filling}
use Rattle.vcm_image.proofs.opening.variables.Given as goal

abbrev pub invariant-loop : goal.invariant-loop
invariant-loop l = Filling entry_at l.count l.counter l.whole l.bytes l.starts.items l.rest
