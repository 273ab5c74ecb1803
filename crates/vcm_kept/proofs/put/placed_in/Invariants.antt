use Rattle.std.proofs.Common.{◌≡◌, ◌++◌, length}
use Rattle.std.specs.Vec.Iter.{into_iter_items, into_iter_len}
use Rattle.vcm_kept.specs.Put.{placed_in}
use Rattle.vcm_kept.proofs.put.placed_in.Given as goal

abbrev pub invariant-loop-statement : goal.invariant-loop-statement
invariant-loop-statement l = record {
  size : into_iter_len l.statement-iterator ≡ length (into_iter_items l.statement-iterator);
  left : l.all.items ++ placed_in (into_iter_items l.statement-iterator) ≡ placed_in (into_iter_items l.initial.statement-iterator);
}
