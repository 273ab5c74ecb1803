use Rattle.vcm_fields.specs.Readers.{item_at}
use Rattle.vcm_fields.proofs.LoopInverse.{Progress}
use Rattle.vcm_fields.proofs.slices.ItemSlice.cut.Given as goal

abbrev pub invariant-loop : goal.invariant-loop
invariant-loop l = Progress item_at l.count l.counter l.bytes l.rest
