use Rattle.std.proofs.Common.{◌≡◌, ◌++◌, length}
use Rattle.std.specs.Vec.Iter.{into_iter_items, into_iter_len}
use Rattle.vcm_kept.specs.Guarding.{guards_from}
use Rattle.vcm_kept.specs.inner.Reaching.{reached}
use Rattle.vcm_kept.specs.inner.Making.{made_of}
use Rattle.vcm_kept.proofs.guarding.guard_all.Given as goal

abbrev pub invariant-loop-placed : goal.invariant-loop-placed
invariant-loop-placed l = record {
  size : into_iter_len l.placed-iterator ≡ length (into_iter_items l.placed-iterator);
  left : l.out.items ++ guards_from l.text (made_of l.made) (reached l.above) (into_iter_items l.placed-iterator)
      ≡ l.initial.out.items ++ guards_from l.text (made_of l.made) (reached l.initial.above) (into_iter_items l.initial.placed-iterator);
}
