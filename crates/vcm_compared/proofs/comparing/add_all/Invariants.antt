use Rattle.std.proofs.Common.{◌≡◌, ◌++◌, length}
use Rattle.std.specs.Vec.Iter.{into_iter_items, into_iter_len}
use Rattle.vcm_compared.specs.Compared.{on_line}
use Rattle.vcm_compared.proofs.comparing.add_all.Given as goal

abbrev pub invariant-loop-form : goal.invariant-loop-form
invariant-loop-form l = record {
  size : into_iter_len l.form-iterator ≡ length (into_iter_items l.form-iterator);
  left : l.out.items ++ on_line l.line (into_iter_items l.form-iterator) ≡ l.initial.out.items ++ on_line l.line (into_iter_items l.initial.form-iterator);
}
