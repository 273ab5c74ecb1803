use Rattle.vcm_fields.specs.Readers.{name_at}
use Rattle.vcm_image.proofs.Tables.{Filling}
use Rattle.vcm_image.proofs.opening.names.Given as goal

abbrev pub invariant-loop : goal.invariant-loop
invariant-loop l = Filling name_at l.count l.counter l.whole l.bytes l.starts.items l.rest
