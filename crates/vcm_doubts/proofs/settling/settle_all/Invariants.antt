use Rattle.std.proofs.Common.{◌≡◌, ◌++◌, length}
use Rattle.std.specs.Vec.Iter.{into_iter_items, into_iter_len}
use Rattle.vcm_doubts.specs.Settled.{settled_from, no_macros}
use Rattle.vcm_doubts.proofs.settling.settle_all.Given as goal

abbrev pub invariant-loop-statement : goal.invariant-loop-statement
invariant-loop-statement l = record {
  size : into_iter_len l.statement-iterator ≡ length (into_iter_items l.statement-iterator);
  left : l.out.items ++ settled_from l.doubts l.macros (into_iter_items l.statement-iterator)
      ≡ settled_from l.doubts no_macros (into_iter_items l.initial.statement-iterator);
}
