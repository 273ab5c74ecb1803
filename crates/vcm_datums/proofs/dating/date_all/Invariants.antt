use Rattle.std.proofs.Common.{◌≡◌, ◌++◌, length}
use Rattle.std.specs.Vec.Iter.{into_iter_items, into_iter_len}
use Rattle.vcm_datums.specs.Dated.{dated_by}
use Rattle.vcm_datums.proofs.dating.date_all.Given as goal

abbrev pub invariant-loop-statement : goal.invariant-loop-statement
invariant-loop-statement l = record {
  size : into_iter_len l.statement-iterator ≡ length (into_iter_items l.statement-iterator);
  left : l.out.items ++ dated_by l.datums l.made (into_iter_items l.statement-iterator)
      ≡ l.initial.out.items ++ dated_by l.datums l.made (into_iter_items l.initial.statement-iterator);
}
