use Rattle.std.proofs.Common.{◌≡◌, ◌++◌, drop}
use Rattle.vcm_compared.specs.Puts.{more_values}
use Rattle.vcm_compared.proofs.puts.add_values.Given as goal

abbrev pub invariant-loop-text : goal.invariant-loop-text
invariant-loop-text l = record {
  left : l.out.items ++ more_values l.texts (drop l.text-index l.others) ≡ l.initial.out.items ++ more_values l.texts l.others;
}
