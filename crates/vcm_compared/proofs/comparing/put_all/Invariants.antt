use Rattle.std.proofs.Common.{◌≡◌, ◌++◌, length}
use Rattle.std.specs.List.{flat_map}
use Rattle.std.specs.Vec.Iter.{into_iter_items, into_iter_len}
use Rattle.vcm_compared.specs.Compared.{compared_statement}
use Rattle.vcm_compared.proofs.comparing.put_all.Given as goal

abbrev pub invariant-loop-statement : goal.invariant-loop-statement
invariant-loop-statement l = record {
  size : into_iter_len l.statement-iterator ≡ length (into_iter_items l.statement-iterator);
  left : l.out.items ++ flat_map (compared_statement l.texts l.lines) (into_iter_items l.statement-iterator)
      ≡ l.initial.out.items ++ flat_map (compared_statement l.texts l.lines) (into_iter_items l.initial.statement-iterator);
}
